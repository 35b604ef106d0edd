-- The start line that the code hands back, in the terms of document 01.
use Rattle.std.specs.Prelude.{Option, Some, None}
use Rattle.message.specs.Message as M
use Rattle.message.specs.StartLines.{Started, started}
use Rattle.message.specs.declared.Span.{Span}
use Rattle.startline.specs.declared.Start.{Start}
use Rattle.startline.specs.declared.StartLine.{StartLine}

abbrev pub start_of : Start → M.Start Span
start_of (Start.Request name id) = M.request name id
start_of (Start.Response id status state) = M.response id status state
start_of (Start.Event name id state) = M.event name id state

abbrev pub started_of : Option StartLine → Started
started_of None = Started.malformed
started_of (Some line) = started (start_of line.start) line.next
