-- Document 002, section 2: sequential programs, the transition relation, programs in parallel, and when a component is enabled. As document
-- 01 narrows it, arithmetic wraps at 2^32 and there is no random assignment: a record says what is assigned or compared, and σ is the
-- values of the variables. These are definitions.
use Rattle.std.specs.Prelude.{◌≡◌, true, false, List, ℕ, ◌<◌, length, get_or, set}
use Rattle.rules.specs.Records.{Record}
use Rattle.rules.specs.Values.{assigned, holds}

infixr 72 ◌before◌
infixr 70 ◌⨾◌
infix 20 ⟨◌∣◌⟩⟶⟨◌∣◌⟩
infix 20 ⟨◌∣◌⟩⟶*⟨◌∣◌⟩
-- skip, an assignment, if B then S1 else S2 fi, while B do S1 od, await B then S1 end; a program is the empty program E, or a statement
-- before a program
mutual
  pub data Statement : Type 0 where
    skip : Statement
    assign : Record → Statement
    if_fi : Record → Program → Program → Statement
    while_od : Record → Program → Statement
    await_end : Record → Program → Statement

  pub data Program : Type 0 where
    E : Program
    ◌before◌ : Statement → Program → Program

abbrev pub only : Statement → Program
only s = s before E

-- S; T, "with E; S ≡ S; E ≡ S": the one by definition, the other by induction on S
abbrev pub ◌⨾◌ : Program → Program → Program
◌⨾◌ E T = T
◌⨾◌ (s before S) T = s before (S ⨾ T)

-- "⟨S, σ⟩ → ⟨S1, σ1⟩ means: Executing S one step in σ can lead to σ1, with S1 being the remainder of S still to be executed"; "→* denotes
-- the reflexive, transitive closure of →"
mutual
  pub data ⟨◌∣◌⟩⟶⟨◌∣◌⟩ : Program → List ℕ → Program → List ℕ → Type 0 where
    skip_rule : {σ : List ℕ} → ⟨ only skip ∣ σ ⟩⟶⟨ E ∣ σ ⟩
    assign_rule : {r : Record} {σ : List ℕ} → ⟨ only (assign r) ∣ σ ⟩⟶⟨ E ∣ assigned σ r ⟩
    if_true : {r : Record} {S T : Program} {σ : List ℕ} → holds σ r ≡ true → ⟨ only (if_fi r S T) ∣ σ ⟩⟶⟨ S ∣ σ ⟩
    if_false : {r : Record} {S T : Program} {σ : List ℕ} → holds σ r ≡ false → ⟨ only (if_fi r S T) ∣ σ ⟩⟶⟨ T ∣ σ ⟩
    while_true : {r : Record} {S : Program} {σ : List ℕ} → holds σ r ≡ true
        → ⟨ only (while_od r S) ∣ σ ⟩⟶⟨ S ⨾ only (while_od r S) ∣ σ ⟩
    while_false : {r : Record} {S : Program} {σ : List ℕ} → holds σ r ≡ false → ⟨ only (while_od r S) ∣ σ ⟩⟶⟨ E ∣ σ ⟩
    await_rule : {r : Record} {S : Program} {σ τ : List ℕ} → ⟨ S ∣ σ ⟩⟶*⟨ E ∣ τ ⟩ → holds σ r ≡ true
        → ⟨ only (await_end r S) ∣ σ ⟩⟶⟨ E ∣ τ ⟩
    sequence_rule : {S T : Program} {σ τ : List ℕ} → ⟨ S ∣ σ ⟩⟶⟨ T ∣ τ ⟩ → (U : Program) → ⟨ S ⨾ U ∣ σ ⟩⟶⟨ T ⨾ U ∣ τ ⟩

  pub data ⟨◌∣◌⟩⟶*⟨◌∣◌⟩ : Program → List ℕ → Program → List ℕ → Type 0 where
    stay : {S : Program} {σ : List ℕ} → ⟨ S ∣ σ ⟩⟶*⟨ S ∣ σ ⟩
    and_then : {S T U : Program} {σ τ υ : List ℕ} → ⟨ S ∣ σ ⟩⟶⟨ T ∣ τ ⟩ → ⟨ T ∣ τ ⟩⟶*⟨ U ∣ υ ⟩ → ⟨ S ∣ σ ⟩⟶*⟨ U ∣ υ ⟩

-- [S1 ∥ … ∥ Sn] is the list of its components, numbered from 0
abbrev pub component : List Program → ℕ → Program
component Ss i = get_or Ss i E

-- "if ⟨Si, σ⟩ → ⟨Ti, τ⟩ for some i … then ⟨[S1 ∥ … ∥ Si ∥ … ∥ Sn], σ⟩ → ⟨[S1 ∥ … ∥ Ti ∥ … ∥ Sn], τ⟩": component i is active
pub data Moves (i : ℕ) : List Program → List ℕ → List Program → List ℕ → Type 0 where
  parallel_rule : {Ss : List Program} {T : Program} {σ τ : List ℕ} → i < length Ss → ⟨ component Ss i ∣ σ ⟩⟶⟨ T ∣ τ ⟩
      → Moves i Ss σ (set Ss i T) τ

-- "it is disabled … if either Si ≡ E or Si ≡ await B then S end; T with σ(B) = false"
pub data Disabled : Program → List ℕ → Type 0 where
  terminated : {σ : List ℕ} → Disabled E σ
  waiting : {r : Record} {S T : Program} {σ : List ℕ} → holds σ r ≡ false → Disabled (only (await_end r S) ⨾ T) σ

-- "it is enabled if it is not disabled"
abbrev pub Enabled : Program → List ℕ → Type 0
Enabled S σ = ¬ Disabled S σ
