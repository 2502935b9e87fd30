-- Reading a part of a written sequence on the kinds of its records. These are definitions.
use Rattle.std.specs.Prelude.{ℕ, ◌+◌, ◌*◌, Bool, false, List, [], ◌∷◌, leb, length, if◌then◌else◌}
use Rattle.rules.specs.Names.{max_records}
use Rattle.rules.specs.Check.{kinds}
use Rattle.parts.specs.declared.Part.{Part}
use Rattle.parts.specs.declared.Stride.{Stride}
use Rattle.parts.specs.declared.Stride.TheVariants.{On, Into, Out, Off}
use Rattle.parts.specs.Strides.{grown, stride_of}
use Rattle.deep.specs.declared.Read.{Read}
use Rattle.deep.specs.declared.Read.TheVariants.{Closed, Wrong, Short}

-- a place counted from so many records further back
abbrev pub shift : ℕ → Read → Read
shift d (Closed place) = Closed (d + place)
shift d (Wrong place) = Wrong (d + place)
shift d (Short finished) = Short finished

-- nothing but the part itself is open, and it has a statement
abbrev pub finished_part : Part → List Part → Bool
finished_part part [] = part.begun
finished_part part (outer ∷ parts) = false

-- one record read, and what the rest finds
abbrev pub carried : (Part → List Part → Read) → Stride → Part → List Part → Read
carried rest (On same) part parts = shift 1 (rest same parts)
carried rest (Into inner) part parts = shift 1 (rest inner (grown part ∷ parts))
carried rest Out part [] = Closed 0
carried rest Out part (outer ∷ parts) = shift 1 (rest outer parts)
carried rest Off part parts = Wrong 0

-- what reading finds in a part, with the parts that are open around it since the reading began
unfoldable pub reading : Part → List Part → List ℕ → Read
reading part parts [] = Short (finished_part part parts)
reading part parts (kind ∷ kinds) = carried (λ p ps. reading p ps kinds) (stride_of part kind) part parts

-- the same of the records of a slice; one of more than 1,024 records is not read
abbrev pub few_reading : Part → List ℕ → Read
few_reading part s = if leb (length s) (8 * max_records) then reading part [] (kinds s) else Short false
