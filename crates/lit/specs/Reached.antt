-- "its body is every record reached from its t1 by targets of inside records", as that sentence: without regard to how a body is found.
-- These are definitions.
use Rattle.std.specs.Prelude.{◌≡◌, ◌↔◌, true, List, ℕ}
use Rattle.rules.specs.Words.{among}
use Rattle.rules.specs.Records.{list_record_at}
use Rattle.rules.specs.Lights.{body}

-- the places reached from a place t: t, and each target but 0 of an inside record that is reached
pub data Reached (list : List ℕ) (t : ℕ) : ℕ → Type 0 where
  itself : Reached list t t
  by_t1 : {p : ℕ} → Reached list t p → (list_record_at list p).inside ≡ 1 → ((list_record_at list p).t1 ≡ 0 → ⊥)
      → Reached list t (list_record_at list p).t1
  by_t2 : {p : ℕ} → Reached list t p → (list_record_at list p).inside ≡ 1 → ((list_record_at list p).t2 ≡ 0 → ⊥)
      → Reached list t (list_record_at list p).t2

-- the rules' body from t has the places reached from t, and no others
abbrev pub BodyIsReached : List ℕ → ℕ → Type 0
BodyIsReached list t = (q : ℕ) → (among q (body list t) ≡ true) ↔ Reached list t q
