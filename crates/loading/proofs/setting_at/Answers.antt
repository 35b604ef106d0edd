-- `loading::setting_at` goes by the sort. Assumes nothing.
use native.Mathlib.Omega.{arith}
use Rattle.loading.proofs.Settings.{level_read}
use Rattle.loading.proofs.setting_at.Goals as goal

pub returns-in_default : goal.returns-in_default
returns-in_default c =
    level_read c.args.sort c.args.value _ (λ e. omega arith) (λ e. omega arith) (λ e. omega arith) c.level_at.ensures
