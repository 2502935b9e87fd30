-- What a station's next step touches, as the code works it out: of a record that is handed over, with whether its station is ready, record
-- by record. These are definitions.
use Rattle.std.specs.Prelude.{◌≡◌, ℕ, ◌-◌, ◌≤◌, ◌<◌, Bool, false, ◌&&◌, ◌||◌, List, [], ◌∷◌, eqb, leb, length, get_or, if◌then◌else◌}
use Rattle.rules.specs.Words.{values}
use Rattle.rules.specs.Names.{AWAIT, variables, max_list}
use Rattle.rules.specs.Records.{Record, ListRecord, list_record_at, list_count}
use Rattle.rules.specs.Lights.{reads, writes, led_to, some_of}
use Rattle.touching.specs.Touching.{added}
use Rattle.touches.specs.declared.Touched.{Touched}

-- how many records are searched for a body: the list's, or its first 1,032
abbrev pub searched : List ℕ → ℕ
searched list = if leb (list_count list) max_list then list_count list else max_list

-- the body among the records searched: the rules' body, in a list that is no longer than that
unfoldable pub body_within : List ℕ → ℕ → List ℕ
body_within list t1 = led_to list (searched list - t1) t1 (t1 ∷ [])

-- the rules' `touches`, of the next step's record and of whether its station is ready
unfoldable pub touched : (Record → Bool) → List ℕ → ListRecord → Bool → Bool
touched does list e ready =
    does e.own
    || eqb e.own.kind AWAIT && ready && some_of (λ p. does (list_record_at list p).own) (body_within list e.t1)

-- what the next step reads, and what it writes
abbrev pub touched_by : List ℕ → ListRecord → Bool → Touched
touched_by list e ready =
    record {
      reads = values (λ v. touched (reads v) list e ready) variables;
      writes = values (λ v. touched (writes v) list e ready) variables;
    }

-- what was touched, and what a record touches too
unfoldable pub with_record : Touched → Record → Touched
with_record t r =
    record {
      reads = added t.reads (λ v. reads v r);
      writes = added t.writes (λ v. writes v r);
    }

-- and what the records at these places touch too
unfoldable pub with_places : List ℕ → Touched → List ℕ → Touched
with_places list t [] = t
with_places list t (p ∷ ps) = with_places list (with_record t (list_record_at list p).own) ps

-- a target t is wanted too, where it lies below count: what was wanted before stays so, and every place wanted lies below the end
pub record Wants (count t end : ℕ) (before : List Bool) (later_end : ℕ) (after : List Bool) : Type 0 where
  pub long : length after ≡ length before
  pub marks : (q : ℕ) → q < count → get_or after q false ≡ (eqb q t || get_or before q false)
  pub kept : end ≤ later_end
  pub past : t < count → t < later_end
  pub within : later_end ≤ count
