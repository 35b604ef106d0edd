-- `digits::digit_value` meets its contract. Assumes nothing.
use Rattle.digits.proofs.Scanning.{worth_none, worth_some}
use Rattle.digits.proofs.digit_value.Goals as goal

pub returns : goal.returns
returns c = let b = c.args.b in (worth_none b c.ranges.b.fits, worth_some b c.ranges.b.fits)
