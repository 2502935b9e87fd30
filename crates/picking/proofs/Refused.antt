-- A refusal has a number of its own, which is not 0. Assumes nothing.
use mathlib.Core.Path.{◌≡◌, refl}
use mathlib.Core.Bool.{false}
use lib.Dec.{eqb}
use Rattle.record.specs.Refusals.{number_of}
use Rattle.record.specs.declared.refusal.Refusal.{Refusal}
use Rattle.record.specs.declared.refusal.Refusal.TheVariants as refusals

pub not_none : (r : Refusal) → eqb (number_of r) 0 ≡ false
not_none refusals.Length = refl
not_none refusals.Field = refl
not_none refusals.Count = refl
not_none refusals.Shape = refl
not_none refusals.Depth = refl
not_none refusals.Room = refl
not_none refusals.List = refl
not_none refusals.State = refl
not_none refusals.Full = refl
not_none refusals.Component = refl
not_none refusals.NotReady = refl
not_none refusals.Turn = refl
not_none refusals.Reset = refl
not_none refusals.Empty = refl
not_none refusals.Log = refl
not_none refusals.Ended = refl
