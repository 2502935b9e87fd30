-- The layout of a list over a whole file. These are definitions; that they come to the rules' list is proved in the crate `build`.
use Rattle.std.specs.Prelude.{ℕ, zero, suc, ◌+◌, ◌-◌, ◌*◌, List, [], ◌∷◌, leb, length, get_or, if◌then◌else◌}
use Rattle.rules.specs.Words.{among, tally, written}
use Rattle.rules.specs.Names.{SKIP, SET, IF, WHILE, AWAIT, INIT}
use Rattle.rules.specs.Records.{Record, ListRecord, records, record_at, record_count, list_record_bytes}
use Rattle.rules.specs.Build.{bare, listed}
use Rattle.entries.specs.Entries.{end_of_file}
use Rattle.layout.specs.Layout.{Laying, before_last, after_kind, lays, record_for}
use Rattle.loops.specs.Loops.{seek_records, nothing_sought}

-- a list record put at a place, where there is room for it
unfoldable pub put_at : ℕ → ListRecord → List ℕ → List ℕ
put_at p e buffer = if leb (16 * p + 16) (length buffer) then written buffer (16 * p) (list_record_bytes e) else buffer

-- the layout and the buffer
pub record Laid : Type 0 where
  pub state : Laying
  pub buffer : List ℕ

unfoldable pub lay_record : List ℕ → Record → Laid → Laid
lay_record loops r x =
    record {
      state = after_kind loops r.kind x.state;
      buffer = (if lays r.kind x.state then put_at (x.state.place - 1) (record_for r x.state) x.buffer else x.buffer);
    }

-- all the records of a file, from the last to the first
unfoldable pub lay_records : List ℕ → List Record → Laid → Laid
lay_records loops [] x = x
lay_records loops (r ∷ rs) x = lay_record loops r (lay_records loops rs x)

-- the INIT records, of so many stations, from the last to the first
unfoldable pub lay_inits : ℕ → List ℕ → ℕ → List ℕ → List ℕ
lay_inits zero starts place buffer = buffer
lay_inits (suc j) starts place buffer =
    lay_inits j starts (place - 1) (put_at (place - 1) (listed (bare INIT j) j 0 (get_or starts j 0) 0) buffer)

-- a whole list of so many records and stations, laid into a buffer
unfoldable pub laid_out : List ℕ → ℕ → ℕ → List ℕ → List ℕ
laid_out file total stations buffer =
    let sought = seek_records (records file) (nothing_sought (stations - 1)) in
    let begin : Laid = record { state = before_last total stations sought.seeking.found; buffer = buffer } in
    let x = lay_records sought.places (records file) (lay_record sought.places end_of_file begin) in
    lay_inits stations x.state.starts x.state.place x.buffer

-- how many SKIP, SET, IF, WHILE and AWAIT records a file has
unfoldable pub step_count : List ℕ → ℕ
step_count file = tally (λ i. among (record_at file i).kind (SKIP ∷ SET ∷ IF ∷ WHILE ∷ AWAIT ∷ [])) (record_count file)
