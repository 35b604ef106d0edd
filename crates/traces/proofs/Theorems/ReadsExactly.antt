-- A file is accepted exactly where it is of the paper's form: frames end to end, their index, the trailer, at most
-- 65,536 bytes. Assumes nothing.
use Prim.Native.Nat.{ℕ, ◌≤◌, ◌<◌}
use mathlib.Core.Path.{◌≡◌, ap, subst, ◌∙◌}
use mathlib.Core.Logic.{◌↔◌}
use mathlib.Core.List.{List}
use lib.ListN.{length}
use Rattle.lists.specs.Lists.{All}
use Rattle.std.specs.Prelude.{Ok}
use Rattle.traces.specs.Traces.{IsFile, trace_of}
use Rattle.traces.proofs.Files.{file_read, read_file}

pub is_read : (f : List ℕ) (ms : List (List ℕ)) → IsFile f ms → trace_of f ≡ Ok ms
is_read f ms i = ap trace_of i.made ∙ file_read ms (subst (λ l. length l ≤ 65536) i.made i.most) i.whole

pub reads_exactly : (f : List ℕ) → All (λ x. x < 256) f → (ms : List (List ℕ)) → (trace_of f ≡ Ok ms) ↔ IsFile f ms
reads_exactly f o ms = (read_file f o ms, is_read f ms)
