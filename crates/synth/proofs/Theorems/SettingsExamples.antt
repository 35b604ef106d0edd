-- Settings and their editions in conversations on both kinds of channel, computed. Assumes nothing.
use Prim.Native.Nat.{ℕ}
use Prim.Native.String.{String}
use mathlib.Core.Path.{◌≡◌, refl}
use mathlib.Core.List.{[], ◌∷◌}
use Rattle.octets.specs.Octets.{bytes}
use Rattle.synth.specs.Calls.{Reply}
use Rattle.synth.proofs.Computed.{opened, lends, reports, goes, replies}

-- the bits of scores of 0.5 and of 0.75
abbrev pub half : ℕ
half = 1056964608

abbrev pub three_quarters : ℕ
three_quarters = 1061158912

-- the number returned, the count consumed and the text written
pub gives : ℕ → ℕ → String → Reply
gives number consumed text = record { number = number; consumed = consumed; written = bytes text }

pub synthesizer :
    replies (opened "7f3a@speechsynth")
    (lends "MRCP/2.0 65 GET-PARAMS 1\r\nChannel-Identifier:7f3a@speechsynth\r\n\r\n"  -- a fresh channel: all unset
    ∷ lends "MRCP/2.0 109 SET-PARAMS 2\r\nChannel-Identifier:7f3a@speechsynth\r\nKill-On-Barge-In:FALSE\r\nFetch-Timeout:007\r\n\r\n"
    ∷ lends "MRCP/2.0 85 GET-PARAMS 3\r\nChannel-Identifier:7f3a@speechsynth\r\nfetch-timeout:junk\r\n\r\n"  -- any case; no value is judged
    ∷ lends "MRCP/2.0 106 SPEAK 4\r\nChannel-Identifier:7f3a@speechsynth\r\nContent-Type:text/plain\r\nContent-Length:2\r\n\r\nHi"  -- takes false, the setting of the moment
    ∷ lends "MRCP/2.0 72 BARGE-IN-OCCURRED 5\r\nChannel-Identifier:7f3a@speechsynth\r\n\r\n"  -- so it is spared
    ∷ lends "MRCP/2.0 106 SET-PARAMS 6\r\nChannel-Identifier:7f3a@speechsynth\r\nVoice-Gender:x\r\nKill-On-Barge-In:maybe\r\n\r\n"  -- 403 before 404
    ∷ lends "MRCP/2.0 89 SET-PARAMS 7\r\nChannel-Identifier:7f3a@speechsynth\r\nKill-On-Barge-In:maybe\r\n\r\n"
    ∷ lends "MRCP/2.0 102 SET-PARAMS 8\r\nChannel-Identifier:7f3a@speechsynth\r\nFetch-Timeout:1\r\nKill-On-Barge-In:\r\n\r\n"  -- an empty value is no value, and none of the fields is taken
    ∷ lends "MRCP/2.0 88 SET-PARAMS 9\r\nChannel-Identifier:7f3a@speechsynth\r\nSensitivity-Level:0.5\r\n\r\n"  -- of the other kind
    ∷ lends "MRCP/2.0 91 SET-PARAMS 10\r\nChannel-Identifier:7f3a@speechsynth\r\nContent-Type:text/plain\r\n\r\n"  -- may not stand here
    ∷ lends "MRCP/2.0 101 SET-PARAMS 11\r\nChannel-Identifier:7f3a@speechsynth\r\nFetch-Timeout:1\r\nFetch-Timeout:1\r\n\r\n"  -- a known name twice: judgement 2, and the id is not used up
    ∷ lends "MRCP/2.0 115 SET-PARAMS 11\r\nChannel-Identifier:7f3a@speechsynth\r\nConfidence-Threshold:1\r\nConfidence-Threshold:1\r\n\r\n"  -- all five names count on either kind
    ∷ lends "MRCP/2.0 94 STOP 11\r\nChannel-Identifier:7f3a@speechsynth\r\nFetch-Timeout:1\r\nFetch-Timeout:2\r\n\r\n"  -- elsewhere the three new ones do not
    ∷ goes 3  -- two are kept
    ∷ goes 2  -- all unset again
    ∷ lends "MRCP/2.0 81 GET-PARAMS 13\r\nChannel-Identifier:7f3a@speechsynth\r\nLogging-Tag:x\r\n\r\n"  -- names no setting: all are told
    ∷ goes 0  -- no number 0
    ∷ lends "MRCP/2.0 66 SET-PARAMS 14\r\nChannel-Identifier:7f3a@speechsynth\r\n\r\n"  -- names none: an equal edition
    ∷ lends "MRCP/2.0 89 SET-PARAMS 15\r\nChannel-Identifier:7f3a@speechsynth\r\nKill-On-Barge-In:true\r\n\r\n"
    ∷ lends "MRCP/2.0 102 SET-PARAMS 16\r\nChannel-Identifier:7f3a@speechsynth\r\nFetch-Timeout:9999999999999999999\r\n\r\n"
    ∷ goes 5  -- four are kept
    ∷ goes 4
    ∷ goes 2
    ∷ lends "MRCP/2.0 104 GET-PARAMS 17\r\nChannel-Identifier:7f3a@speechsynth\r\nFetch-Timeout:x\r\nKill-On-Barge-In:y\r\n\r\n"  -- in the order of the list
    ∷ lends "MRCP/2.0 103 SET-PARAMS 18\r\nChannel-Identifier:7f3a@speechsynth\r\nFetch-Timeout:12345678901234567890\r\n\r\n"  -- 20 digits
    ∷ lends "MRCP/2.0 92 GET-PARAMS 19\r\nChannel-Identifier:7f3a@speechsynth\r\nActive-Request-Id-List:1\r\n\r\n"  -- 403 here too
    ∷ lends "MRCP/2.0 104 SET-PARAMS 20\r\nChannel-Identifier:7f3a@speechsynth\r\nContent-Length:2\r\nFetch-Timeout:0\r\n\r\nHi"  -- a body where none is used
    ∷ lends "MRCP/2.0 99 GET-PARAMS 21\r\nChannel-Identifier:7f3a@speechsynth\r\nProxy-Sync-Id:1\r\nFetch-Timeout:\r\n\r\n"
    ∷ lends "MRCP/2.0 107 SPEAK 22\r\nChannel-Identifier:7f3a@speechsynth\r\nContent-Type:text/plain\r\nContent-Length:2\r\n\r\nHi"  -- takes true
    ∷ lends "MRCP/2.0 73 BARGE-IN-OCCURRED 23\r\nChannel-Identifier:7f3a@speechsynth\r\n\r\n"  -- so it is killed
    ∷ lends "MRCP/2.0 131 SPEAK 24\r\nChannel-Identifier:7f3a@speechsynth\r\nContent-Type:text/plain\r\nContent-Length:2\r\nKill-On-Barge-In:false\r\n\r\nHi"  -- its own field goes first
    ∷ lends "MRCP/2.0 73 BARGE-IN-OCCURRED 25\r\nChannel-Identifier:7f3a@speechsynth\r\n\r\n"
    ∷ goes 1
    ∷ lends "MRCP/2.0 66 GET-PARAMS 26\r\nChannel-Identifier:7f3a@speechsynth\r\n\r\n"
    ∷ [])
    ≡ gives 0 65 "MRCP/2.0 103 1 200 COMPLETE\r\nChannel-Identifier:7f3a@speechsynth\r\nKill-On-Barge-In:\r\nFetch-Timeout:\r\n\r\n"
    ∷ gives 0 109 "MRCP/2.0 67 2 200 COMPLETE\r\nChannel-Identifier:7f3a@speechsynth\r\n\r\n"
    ∷ gives 0 85 "MRCP/2.0 84 3 200 COMPLETE\r\nChannel-Identifier:7f3a@speechsynth\r\nFetch-Timeout:7\r\n\r\n"
    ∷ gives 0 106 "MRCP/2.0 70 4 200 IN-PROGRESS\r\nChannel-Identifier:7f3a@speechsynth\r\n\r\n"
    ∷ gives 0 72 "MRCP/2.0 67 5 200 COMPLETE\r\nChannel-Identifier:7f3a@speechsynth\r\n\r\n"
    ∷ gives 0 106 "MRCP/2.0 67 6 403 COMPLETE\r\nChannel-Identifier:7f3a@speechsynth\r\n\r\n"
    ∷ gives 0 89 "MRCP/2.0 67 7 404 COMPLETE\r\nChannel-Identifier:7f3a@speechsynth\r\n\r\n"
    ∷ gives 0 102 "MRCP/2.0 67 8 404 COMPLETE\r\nChannel-Identifier:7f3a@speechsynth\r\n\r\n"
    ∷ gives 0 88 "MRCP/2.0 67 9 403 COMPLETE\r\nChannel-Identifier:7f3a@speechsynth\r\n\r\n"
    ∷ gives 0 91 "MRCP/2.0 68 10 403 COMPLETE\r\nChannel-Identifier:7f3a@speechsynth\r\n\r\n"
    ∷ gives 0 101 "MRCP/2.0 68 11 404 COMPLETE\r\nChannel-Identifier:7f3a@speechsynth\r\n\r\n"
    ∷ gives 0 115 "MRCP/2.0 68 11 404 COMPLETE\r\nChannel-Identifier:7f3a@speechsynth\r\n\r\n"
    ∷ gives 0 94 "MRCP/2.0 94 11 201 COMPLETE\r\nChannel-Identifier:7f3a@speechsynth\r\nActive-Request-Id-List:4\r\n\r\n"
    ∷ gives 12 0 ""
    ∷ gives 0 0 ""
    ∷ gives 0 81 "MRCP/2.0 104 13 200 COMPLETE\r\nChannel-Identifier:7f3a@speechsynth\r\nKill-On-Barge-In:\r\nFetch-Timeout:\r\n\r\n"
    ∷ gives 12 0 ""
    ∷ gives 0 66 "MRCP/2.0 68 14 200 COMPLETE\r\nChannel-Identifier:7f3a@speechsynth\r\n\r\n"
    ∷ gives 0 89 "MRCP/2.0 68 15 200 COMPLETE\r\nChannel-Identifier:7f3a@speechsynth\r\n\r\n"
    ∷ gives 0 102 "MRCP/2.0 68 16 200 COMPLETE\r\nChannel-Identifier:7f3a@speechsynth\r\n\r\n"
    ∷ gives 12 0 ""
    ∷ gives 0 0 ""
    ∷ gives 0 0 ""
    ∷ gives 0 104 "MRCP/2.0 127 17 200 COMPLETE\r\nChannel-Identifier:7f3a@speechsynth\r\nKill-On-Barge-In:true\r\nFetch-Timeout:9999999999999999999\r\n\r\n"
    ∷ gives 0 103 "MRCP/2.0 68 18 404 COMPLETE\r\nChannel-Identifier:7f3a@speechsynth\r\n\r\n"
    ∷ gives 0 92 "MRCP/2.0 68 19 403 COMPLETE\r\nChannel-Identifier:7f3a@speechsynth\r\n\r\n"
    ∷ gives 0 104 "MRCP/2.0 68 20 200 COMPLETE\r\nChannel-Identifier:7f3a@speechsynth\r\n\r\n"
    ∷ gives 0 99 "MRCP/2.0 85 21 200 COMPLETE\r\nChannel-Identifier:7f3a@speechsynth\r\nFetch-Timeout:0\r\n\r\n"
    ∷ gives 0 107 "MRCP/2.0 71 22 200 IN-PROGRESS\r\nChannel-Identifier:7f3a@speechsynth\r\n\r\n"
    ∷ gives 0 73 "MRCP/2.0 95 23 200 COMPLETE\r\nChannel-Identifier:7f3a@speechsynth\r\nActive-Request-Id-List:22\r\n\r\n"
    ∷ gives 0 131 "MRCP/2.0 71 24 200 IN-PROGRESS\r\nChannel-Identifier:7f3a@speechsynth\r\n\r\n"
    ∷ gives 0 73 "MRCP/2.0 68 25 200 COMPLETE\r\nChannel-Identifier:7f3a@speechsynth\r\n\r\n"
    ∷ gives 0 0 ""
    ∷ gives 0 66 "MRCP/2.0 109 26 200 COMPLETE\r\nChannel-Identifier:7f3a@speechsynth\r\nKill-On-Barge-In:true\r\nFetch-Timeout:0\r\n\r\n"
    ∷ []
unfolding gives opened replies
synthesizer = refl

pub recognizer :
    replies (opened "7f3a@speechrecog")
    (goes 2  -- one is kept
    ∷ lends "MRCP/2.0 152 SET-PARAMS 1\r\nChannel-Identifier:7f3a@speechrecog\r\nConfidence-Threshold:0.75\r\nSensitivity-Level:1\r\nNo-Input-Timeout:0000000000000000012\r\n\r\n"
    ∷ lends "MRCP/2.0 65 GET-PARAMS 2\r\nChannel-Identifier:7f3a@speechrecog\r\n\r\n"
    ∷ lends "MRCP/2.0 114 RECOGNIZE 3\r\nChannel-Identifier:7f3a@speechrecog\r\nContent-Type:text/uri-list\r\nContent-Length:3\r\n\r\nx:y"  -- takes 0.75
    ∷ lends "MRCP/2.0 89 SET-PARAMS 4\r\nChannel-Identifier:7f3a@speechrecog\r\nConfidence-Threshold:0\r\n\r\n"
    ∷ reports 0 three_quarters  -- equal to 0.75, which it was accepted with: not greater
    ∷ lends "MRCP/2.0 114 RECOGNIZE 5\r\nChannel-Identifier:7f3a@speechrecog\r\nContent-Type:text/uri-list\r\nContent-Length:3\r\n\r\nx:y"  -- takes 0
    ∷ goes 2  -- 0.75 again
    ∷ reports 0 half  -- greater than 0
    ∷ lends "MRCP/2.0 140 RECOGNIZE 6\r\nChannel-Identifier:7f3a@speechrecog\r\nContent-Type:text/uri-list\r\nContent-Length:3\r\nConfidence-Threshold:0.1\r\n\r\nx:y"  -- its own field goes first
    ∷ reports 0 half
    ∷ lends "MRCP/2.0 114 RECOGNIZE 7\r\nChannel-Identifier:7f3a@speechrecog\r\nContent-Type:text/uri-list\r\nContent-Length:3\r\n\r\nx:y"  -- takes 0.75
    ∷ reports 8 three_quarters
    ∷ lends "MRCP/2.0 88 SET-PARAMS 8\r\nChannel-Identifier:7f3a@speechrecog\r\nKill-On-Barge-In:true\r\n\r\n"  -- of the other kind
    ∷ lends "MRCP/2.0 99 SET-PARAMS 9\r\nChannel-Identifier:7f3a@speechrecog\r\nFetch-Timeout:1\r\nFetch-Timeout:1\r\n\r\n"
    ∷ lends "MRCP/2.0 96 SET-PARAMS 9\r\nChannel-Identifier:7f3a@speechrecog\r\nConfidence-Threshold:1.000001\r\n\r\n"  -- above one
    ∷ lends "MRCP/2.0 113 SET-PARAMS 10\r\nChannel-Identifier:7f3a@speechrecog\r\nNo-Input-Timeout:5\r\nConfidence-Threshold:1.1\r\n\r\n"  -- and none of the fields is taken
    ∷ lends "MRCP/2.0 110 GET-PARAMS 11\r\nChannel-Identifier:7f3a@speechrecog\r\nsensitivity-level:\r\nconfidence-threshold:\r\n\r\n"  -- in the order of the list
    ∷ lends "MRCP/2.0 85 GET-PARAMS 12\r\nChannel-Identifier:7f3a@speechrecog\r\nNo-Input-Timeout:\r\n\r\n"  -- as it was
    ∷ lends "MRCP/2.0 121 SET-PARAMS 13\r\nChannel-Identifier:7f3a@speechrecog\r\nConfidence-Threshold:0.500000\r\nSensitivity-Level:0.5\r\n\r\n"
    ∷ lends "MRCP/2.0 66 GET-PARAMS 14\r\nChannel-Identifier:7f3a@speechrecog\r\n\r\n"
    ∷ [])
    ≡ gives 12 0 ""
    ∷ gives 0 152 "MRCP/2.0 67 1 200 COMPLETE\r\nChannel-Identifier:7f3a@speechrecog\r\n\r\n"
    ∷ gives 0 65 "MRCP/2.0 148 2 200 COMPLETE\r\nChannel-Identifier:7f3a@speechrecog\r\nNo-Input-Timeout:12\r\nConfidence-Threshold:0.750000\r\nSensitivity-Level:1.000000\r\n\r\n"
    ∷ gives 0 114 "MRCP/2.0 70 3 200 IN-PROGRESS\r\nChannel-Identifier:7f3a@speechrecog\r\n\r\n"
    ∷ gives 0 89 "MRCP/2.0 67 4 200 COMPLETE\r\nChannel-Identifier:7f3a@speechrecog\r\n\r\n"
    ∷ gives 0 0 "MRCP/2.0 116 RECOGNITION-COMPLETE 3 COMPLETE\r\nChannel-Identifier:7f3a@speechrecog\r\nCompletion-Cause:001 no-match\r\n\r\n"
    ∷ gives 0 114 "MRCP/2.0 70 5 200 IN-PROGRESS\r\nChannel-Identifier:7f3a@speechrecog\r\n\r\n"
    ∷ gives 0 0 ""
    ∷ gives 0 0 "MRCP/2.0 115 RECOGNITION-COMPLETE 5 COMPLETE\r\nChannel-Identifier:7f3a@speechrecog\r\nCompletion-Cause:000 success\r\n\r\n"
    ∷ gives 0 140 "MRCP/2.0 70 6 200 IN-PROGRESS\r\nChannel-Identifier:7f3a@speechrecog\r\n\r\n"
    ∷ gives 0 0 "MRCP/2.0 115 RECOGNITION-COMPLETE 6 COMPLETE\r\nChannel-Identifier:7f3a@speechrecog\r\nCompletion-Cause:000 success\r\n\r\n"
    ∷ gives 0 114 "MRCP/2.0 70 7 200 IN-PROGRESS\r\nChannel-Identifier:7f3a@speechrecog\r\n\r\n"
    ∷ gives 0 0 "MRCP/2.0 116 RECOGNITION-COMPLETE 7 COMPLETE\r\nChannel-Identifier:7f3a@speechrecog\r\nCompletion-Cause:001 no-match\r\n\r\n"
    ∷ gives 0 88 "MRCP/2.0 67 8 403 COMPLETE\r\nChannel-Identifier:7f3a@speechrecog\r\n\r\n"
    ∷ gives 0 99 "MRCP/2.0 67 9 404 COMPLETE\r\nChannel-Identifier:7f3a@speechrecog\r\n\r\n"
    ∷ gives 0 96 "MRCP/2.0 67 9 404 COMPLETE\r\nChannel-Identifier:7f3a@speechrecog\r\n\r\n"
    ∷ gives 0 113 "MRCP/2.0 68 10 404 COMPLETE\r\nChannel-Identifier:7f3a@speechrecog\r\n\r\n"
    ∷ gives 0 110 "MRCP/2.0 128 11 200 COMPLETE\r\nChannel-Identifier:7f3a@speechrecog\r\nConfidence-Threshold:0.750000\r\nSensitivity-Level:1.000000\r\n\r\n"
    ∷ gives 0 85 "MRCP/2.0 89 12 200 COMPLETE\r\nChannel-Identifier:7f3a@speechrecog\r\nNo-Input-Timeout:12\r\n\r\n"
    ∷ gives 0 121 "MRCP/2.0 68 13 200 COMPLETE\r\nChannel-Identifier:7f3a@speechrecog\r\n\r\n"
    ∷ gives 0 66 "MRCP/2.0 149 14 200 COMPLETE\r\nChannel-Identifier:7f3a@speechrecog\r\nNo-Input-Timeout:12\r\nConfidence-Threshold:0.500000\r\nSensitivity-Level:0.500000\r\n\r\n"
    ∷ []
unfolding gives opened replies
recognizer = refl
