-- The start of an accepted file's list: the stations are whole, and the initial part has been run. Assumes nothing.
use mathlib.Core.Path.{◌≡◌, sym, ap, ◌∙◌}
use mathlib.Core.List.{List, [], ◌∷◌, map}
use Prim.Native.Nat.{ℕ, suc, ◌-◌, ◌<◌}
use native.Mathlib.Nat.{zero-add}
use native.Mathlib.Omega.{arith}
use lib.ListN.{length, get_or, replicate, length-map, get_or-append, get_or-map}
use lib.Seq.{ext_get_or}
use Rattle.rules.specs.Words.{values}
use Rattle.rules.specs.Names.{variables, max_stations}
use Rattle.rules.specs.Records.{Record, ListRecord, list_record_at}
use Rattle.rules.specs.Trees.{Statements, stations_of, initial_part}
use Rattle.rules.specs.Build.{initial_record}
use Rattle.rules.specs.List.{stations}
use Rattle.rules.specs.Values.{assigned}
use Rattle.rules.specs.State.{State, position}
use Rattle.rules.specs.Start.{initial_run, started}
use Rattle.laws.proofs.Places.{length_values, get_or_values}
use Rattle.reading.specs.Accepted.{Accepted}
use Rattle.reading.proofs.One.{reading_is}
use Rattle.built.specs.Built.{built}
use Rattle.built.proofs.Along.{Along}
use Rattle.built.proofs.Standing.{parts_apart}
use Rattle.language.specs.Language.{Program, E, ⟨◌∣◌⟩⟶*⟨◌∣◌⟩, assign_rule, sequence_rule, stay, and_then}
use Rattle.language.specs.Rests.{program_of, assignments, stands_for}
use Rattle.language.specs.Claims.{InitWhole, StartWhole}
use Rattle.language.proofs.Bodies.{Spelt}
use Rattle.language.proofs.Stations.{stations_whole}
use Rattle.language.proofs.Placed.{parted, spelt}

-- the initial part's records run as its assignments do
initial_ends : (list : List ℕ) (initial : List Record) (p : ℕ) → Along (Spelt list) p (map initial_record initial) → (σ : List ℕ)
    → ⟨ assignments initial ∣ σ ⟩⟶*⟨ E ∣ initial_run list p (length initial) σ ⟩
unfolding assignments initial_run
initial_ends list [] p h σ = stay
initial_ends list (r ∷ rs) p h σ =
    let one = ap (λ (e : ListRecord). initial_run list (suc p) (length rs) (assigned σ e.own)) h.0 in
    rw one (and_then (sequence_rule assign_rule (assignments rs)) (initial_ends list rs (suc p) h.1 (assigned σ r)))

module _ (file : List ℕ) (bytes : (i : ℕ) → get_or file i 0 < 256) (accepted : Accepted file) where
  pub init_whole : InitWhole file
  init_whole j l =
      let parts = parts_apart (Spelt (built file)) (initial_part file) (stations_of file) (spelt file bytes accepted) in
      rw zero-add at
      (stations_whole (built file) (stands_for file) (reading_is file accepted).stations 0 _ (λ i q. rw zero-add) parts.0 j l)

  -- station j starts where its INIT leads
  first_position : (b : ℕ) (resets : List ℕ) (j : ℕ) → j < stations (built file)
      → position (started (built file) b resets) j ≡ (list_record_at (built file) j).t1
  unfolding started
  first_position b resets j l =
      let n : ℕ = stations (built file) in
      let firsts : ℕ → ℕ = λ i. (list_record_at (built file) i).t1 in
      let count = length_values firsts n in
      get_or-append (values firsts n) (replicate (max_stations - n) 0) 0 j (omega arith) ∙ get_or_values firsts n j 0 l

  pub start_whole : StartWhole file
  unfolding started program_of
  start_whole b resets =
      let n : ℕ = stations (built file) in
      let s : State = started (built file) b resets in
      let rest : ℕ → Program = λ j. stands_for file j (position s j) in
      let parts = parts_apart (Spelt (built file)) (initial_part file) (stations_of file) (spelt file bytes accepted) in
      let count = (parted file bytes accepted).stations_are in
      let long : length (map program_of (stations_of file)) ≡ length (stations_of file) = length-map (stations_of file) program_of in
      let counted = length_values rest n in (
        ext_get_or E (values rest n) (map program_of (stations_of file)) (omega arith)
            (λ i l. get_or_values rest n i E (omega arith)
            ∙ ap (stands_for file i) (first_position b resets i (omega arith))
            ∙ init_whole i (omega arith)
            ∙ sym (get_or-map program_of (stations_of file) i Statements.nothing)),
        rw ((parted file bytes accepted).initials_are, count)
            (initial_ends (built file) (initial_part file) (length (stations_of file)) parts.1 (replicate variables 0)),
      )
