-- The transition relation is a function of its first configuration, and a disabled component has no transition. Assumes nothing.
use mathlib.Core.Path.{◌≡◌, refl, sym, ap, ◌∙◌}
use mathlib.Core.Bool.{Bool, true, false}
use mathlib.Core.List.{List}
use Prim.Native.Nat.{ℕ}
use native.Mathlib.Omega.{arith}
use Rattle.rules.specs.Records.{Record}
use Rattle.rules.specs.Values.{assigned, holds}
use Rattle.language.specs.Language.{Statement, skip, assign, if_fi, while_od, await_end, Program, E, ◌before◌, only, ◌⨾◌, ⟨◌∣◌⟩⟶⟨◌∣◌⟩, skip_rule, assign_rule, if_true, if_false, while_true, while_false, await_rule, sequence_rule, ⟨◌∣◌⟩⟶*⟨◌∣◌⟩, stay, and_then, Disabled, waiting, Enabled}
use Rattle.language.proofs.Sequence.{then_nothing, grouped, not_empty}

-- what a statement alone can do: the rules but for the sequence
data Acts : Statement → List ℕ → Program → List ℕ → Type 0 where
  skips : {σ : List ℕ} → Acts skip σ E σ
  assigns : {r : Record} {σ : List ℕ} → Acts (assign r) σ E (assigned σ r)
  goes_in : {r : Record} {S T : Program} {σ : List ℕ} → holds σ r ≡ true → Acts (if_fi r S T) σ S σ
  goes_else : {r : Record} {S T : Program} {σ : List ℕ} → holds σ r ≡ false → Acts (if_fi r S T) σ T σ
  goes_round : {r : Record} {S : Program} {σ : List ℕ} → holds σ r ≡ true → Acts (while_od r S) σ (S ⨾ only (while_od r S)) σ
  leaves : {r : Record} {S : Program} {σ : List ℕ} → holds σ r ≡ false → Acts (while_od r S) σ E σ
  passes : {r : Record} {S : Program} {σ τ : List ℕ} → ⟨ S ∣ σ ⟩⟶*⟨ E ∣ τ ⟩ → holds σ r ≡ true → Acts (await_end r S) σ E τ

-- what a program can do: its first statement's doing, and then the rest
data Does : Program → List ℕ → Program → List ℕ → Type 0 where
  does : {s : Statement} {S T U : Program} {σ τ : List ℕ} → Acts s σ T τ → U ≡ T ⨾ S → Does (s before S) σ U τ

longer : {S T : Program} {σ τ : List ℕ} → Does S σ T τ → (U : Program) → Does (S ⨾ U) σ (T ⨾ U) τ
longer (does {S = S} {T = T} a e) U = does a (ap (λ (W : Program). W ⨾ U) e ∙ grouped T S U)

does_of : {S T : Program} {σ τ : List ℕ} → ⟨ S ∣ σ ⟩⟶⟨ T ∣ τ ⟩ → Does S σ T τ
does_of skip_rule = does skips refl
does_of assign_rule = does assigns refl
does_of (if_true {S = S} e) = does (goes_in e) (sym (then_nothing S))
does_of (if_false {T = T} e) = does (goes_else e) (sym (then_nothing T))
does_of (while_true {r} {S} e) = does (goes_round e) (sym (then_nothing (S ⨾ only (while_od r S))))
does_of (while_false e) = does (leaves e) refl
does_of (await_rule d e) = does (passes d e) refl
does_of (sequence_rule d U) = longer (does_of d) U

-- no test both holds and fails
pub never : {b : Bool} {X : Type 0} → b ≡ true → b ≡ false → X
never e f = absurd (let z : ◌≡◌ {A = ℕ} 0 1 = cc in omega arith)

ended_still : {S T : Program} {σ τ : List ℕ} → Does S σ T τ → S ≡ E → ⊥
ended_still (does a e) f = not_empty f

-- of a longer program that can move, the first part can
shorter : {S T W : Program} {σ τ υ : List ℕ} → Does S σ T τ → (U : Program) → Does (S ⨾ U) σ W υ
    → (R : Program) × Does S σ R υ × (W ≡ R ⨾ U)
shorter (does {S = S} a e) U (does {T = T} b f) = (T ⨾ S, does b refl, f ∙ sym (grouped T S U))

-- the program can do no other than this; and it ends with no other values than these, where this is an end
abbrev Only : Program → List ℕ → Program → List ℕ → Type 0
Only S σ T τ = (U : Program) (υ : List ℕ) → Does S σ U υ → (T ≡ U) × (τ ≡ υ)

abbrev Ends : Program → List ℕ → Program → List ℕ → Type 0
Ends S σ T τ = (U : Program) (υ : List ℕ) → ⟨ S ∣ σ ⟩⟶*⟨ U ∣ υ ⟩ → T ≡ E → U ≡ E → τ ≡ υ

only_skip : {σ : List ℕ} → Only (only skip) σ E σ
only_skip U υ (does skips f) = (sym f, refl)

only_assign : {r : Record} {σ : List ℕ} → Only (only (assign r)) σ E (assigned σ r)
only_assign U υ (does assigns f) = (sym f, refl)

only_true : {r : Record} {S T : Program} {σ : List ℕ} → holds σ r ≡ true → Only (only (if_fi r S T)) σ S σ
only_true {S = S} e U υ (does (goes_in d) f) = (sym (f ∙ then_nothing S), refl)
only_true e U υ (does (goes_else d) f) = never e d

only_false : {r : Record} {S T : Program} {σ : List ℕ} → holds σ r ≡ false → Only (only (if_fi r S T)) σ T σ
only_false e U υ (does (goes_in d) f) = never d e
only_false {T = T} e U υ (does (goes_else d) f) = (sym (f ∙ then_nothing T), refl)

only_round : {r : Record} {S : Program} {σ : List ℕ} → holds σ r ≡ true → Only (only (while_od r S)) σ (S ⨾ only (while_od r S)) σ
only_round {r} {S} e U υ (does (goes_round d) f) = (sym (f ∙ then_nothing (S ⨾ only (while_od r S))), refl)
only_round e U υ (does (leaves d) f) = never e d

only_leave : {r : Record} {S : Program} {σ : List ℕ} → holds σ r ≡ false → Only (only (while_od r S)) σ E σ
only_leave e U υ (does (goes_round d) f) = never d e
only_leave e U υ (does (leaves d) f) = (sym f, refl)

only_pass : {r : Record} {S : Program} {σ τ : List ℕ} → Ends S σ E τ → Only (only (await_end r S)) σ E τ
only_pass b U υ (does (passes c d) f) = (sym f, b E υ c refl refl)

only_longer : {S T : Program} {σ τ : List ℕ} → Does S σ T τ → Only S σ T τ → (U : Program) → Only (S ⨾ U) σ (T ⨾ U) τ
only_longer d h U W υ c =
    let part = shorter d U c in
    let both = h part.0 υ part.1 in
    (ap (λ (R : Program). R ⨾ U) both.0 ∙ sym part.2, both.1)

ends_here : {S : Program} {σ : List ℕ} → Ends S σ S σ
ends_here U υ stay e f = refl
ends_here U υ (and_then c cs) e f = absurd (ended_still (does_of c) e)

ends_later : {S T U : Program} {σ τ υ : List ℕ} → Does S σ T τ → Only S σ T τ → Ends T τ U υ → Ends S σ U υ
ends_later d h k W ω stay e f = absurd (ended_still d f)
ends_later d h k W ω (and_then {T = T} {τ = τ} c cs) e f =
    let both = h T τ (does_of c) in
    k W ω (rw (← both.0, ← both.1) at cs) e f

only_step : {S T : Program} {σ τ : List ℕ} → ⟨ S ∣ σ ⟩⟶⟨ T ∣ τ ⟩ → Only S σ T τ
only_step d =
    elim d as (λ S σ T τ c. Only S σ T τ) (λ S σ T τ c. Ends S σ T τ) [
      | skip_rule ↦ only_skip
      | assign_rule ↦ only_assign
      | if_true e ↦ only_true e
      | if_false e ↦ only_false e
      | while_true e ↦ only_round e
      | while_false e ↦ only_leave e
      | await_rule (b → h) e ↦ only_pass h
      | sequence_rule (c → h) U ↦ only_longer (does_of c) h U
      | stay ↦ ends_here
      | and_then (c → h) (cs → hs) ↦ ends_later (does_of c) h hs
    ]

ends_all : {S T : Program} {σ τ : List ℕ} → ⟨ S ∣ σ ⟩⟶*⟨ T ∣ τ ⟩ → Ends S σ T τ
ends_all stay = ends_here
ends_all (and_then d ds) = ends_later (does_of d) (only_step d) (ends_all ds)

pub determined : {S T U : Program} {σ τ υ : List ℕ} → ⟨ S ∣ σ ⟩⟶⟨ T ∣ τ ⟩ → ⟨ S ∣ σ ⟩⟶⟨ U ∣ υ ⟩ → (T ≡ U) × (τ ≡ υ)
determined {U = U} {υ = υ} d c = only_step d U υ (does_of c)

-- and so are the values with which a program ends
pub one_end : {S : Program} {σ τ υ : List ℕ} → ⟨ S ∣ σ ⟩⟶*⟨ E ∣ τ ⟩ → ⟨ S ∣ σ ⟩⟶*⟨ E ∣ υ ⟩ → τ ≡ υ
one_end {υ = υ} d c = ends_all d E υ c refl refl

held : {S T : Program} {σ τ : List ℕ} → Does S σ T τ → Disabled S σ → ⊥
held (does skips e) f = elim f [ ]
held (does assigns e) f = elim f [ ]
held (does (goes_in d) e) f = elim f [ ]
held (does (goes_else d) e) f = elim f [ ]
held (does (goes_round d) e) f = elim f [ ]
held (does (leaves d) e) f = elim f [ ]
held (does (passes d e) f) (waiting g) = never e g

pub moving_enabled : {S T : Program} {σ τ : List ℕ} → ⟨ S ∣ σ ⟩⟶⟨ T ∣ τ ⟩ → Enabled S σ
moving_enabled d = held (does_of d)
