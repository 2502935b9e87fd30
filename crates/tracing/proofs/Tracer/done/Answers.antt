-- `tracing::Tracer::done` meets its contract. Assumes nothing.
use mathlib.Core.Path.{◌≡◌, refl}
use mathlib.Core.Bool.{true, false}
use Rattle.tracing.specs.declared.Next.{Next}
use Rattle.tracing.specs.declared.Next.TheVariants.{Start, Pick, End, Nothing}
use Rattle.tracing.proofs.Tracer.done.Goals as goal

-- what comes next is something
some : (next : Next) → (next ≡ Nothing → ⊥) → false ≡ (elim next [ Start ↦ false | Pick i ↦ false | End number ↦ false | Nothing ↦ true ])
some Start other = refl
some (Pick i) other = refl
some (End number) other = refl
some Nothing other = absurd (other refl)

pub returns-in_default : goal.returns-in_default
returns-in_default c = some c.args.self.next c.in_default.not-Nothing
