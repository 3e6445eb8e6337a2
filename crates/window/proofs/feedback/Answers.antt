-- One law for each form, as the rule says. Assumes nothing.
use mathlib.Core.Path.{sym, ap, ◌∙◌}
use Rattle.std.specs.Int.{div_ceil}
use native.Mathlib.Omega.{arith}
use Rattle.window.proofs.WindowLaws.{feedback_flat, feedback_per_window, feedback_root, root_high}
use Prim.Native.Nat.{◌*◌}
use Rattle.rules.specs.Sizes.{U}
use Rattle.window.proofs.Ceil.{ceil_is}
use Rattle.window.proofs.feedback.Goals as goal

pub returns-in-0 : goal.returns-in-0
returns-in-0 c = sym (feedback_flat _ _ c.in-0.is)

pub returns-in-1 : goal.returns-in-1
returns-in-1 c =
    c.div_ceil.ensures ∙ ap (λ x. div_ceil x (100 * c.args.window)) (omega arith) ∙ ceil_is (c.args.f.percent * U) (100 * c.args.window) (omega arith)
    ∙ sym (feedback_per_window _ _ c.in-1.is)

pub overflow_mul-result-in_default : goal.overflow_mul-result-in_default
overflow_mul-result-in_default c = omega (arith, root_high _ _ _ c.requires.0 c.root.ensures)

pub returns-in_default : goal.returns-in_default
returns-in_default c = feedback_root _ _ _ (omega arith) (omega arith) c.root.ensures
