-- What the lights show leaves one answer: a mask is known by what it marks, a row by its masks. The theorem stands at the end. Assumes
-- nothing.
use mathlib.Core.Path.{◌≡◌, refl, sym, ◌∙◌}
use mathlib.Core.Bool.{Bool, true, false}
use mathlib.Core.List.{List, []}
use Prim.Native.Nat.{ℕ, zero, suc, ◌<◌}
use native.Mathlib.Omega.{arith}
use lib.ListN.{length, get_or}
use lib.Seq.{ext_get_or}
use Rattle.rules.specs.Names.{variables}
use Rattle.rules.specs.State.{State}
use Rattle.lit.specs.Lit.{bit, Marks, MarksRow, ShowsOnly}
use Rattle.lit.proofs.Bits.{bits_same}

-- two tests of which each holds where the other does are the same
pub same_test : (a b : Bool) → (a ≡ true → b ≡ true) → (b ≡ true → a ≡ true) → a ≡ b
same_test true b there back = sym (there refl)
same_test false true there back = back refl
same_test false false there back = refl

one_mask : (s : State) {a b : ℕ} {P : ℕ → Type 0} → Marks s a P → Marks s b P → a ≡ b
one_mask s {a = a} {b = b} x y = bits_same a b (λ j. same_test (bit a j) (bit b j) (λ h. (y j).1 ((x j).0 h)) (λ h. (x j).1 ((y j).0 h)))

one_row : (s : State) {a b : List ℕ} {P : ℕ → ℕ → Type 0} → MarksRow s a P → MarksRow s b P → a ≡ b
one_row s {a = a} {b = b} x y =
    ext_get_or 0 a b (x.long ∙ sym y.long)
    (λ v l. let within : v < variables = omega arith in one_mask s (x.marks v within) (y.marks v within))

one_pair : (a b : List (List ℕ)) → length a ≡ 2 → length b ≡ 2 → get_or a 0 [] ≡ get_or b 0 [] → get_or a 1 [] ≡ get_or b 1 [] → a ≡ b
one_pair a b x y first second = ext_get_or [] a b (x ∙ sym y) (λ i l. row i (rw x at l))
  where
    row : (i : ℕ) → i < 2 → get_or a i [] ≡ get_or b i []
    row zero l = first
    row (suc zero) l = second
    row (suc (suc i)) l = absurd (omega arith)

pub shows_only : ShowsOnly
shows_only list s a b number x y =
    let ready = one_mask s x.on_ready y.on_ready in
    let in_turn = one_mask s x.on_in_turn y.on_in_turn in
    let waiting = one_mask s x.on_waiting y.on_waiting in
    let ended = one_mask s x.on_ended y.on_ended in
    let reads = one_row s x.on_reads y.on_reads in
    let writes = one_row s x.on_writes y.on_writes in
    let rows = one_pair a.rows b.rows x.two_rows y.two_rows reads writes in
    λ i. record { number = number i; ready = ready i; in_turn = in_turn i; waiting = waiting i; ended = ended i; rows = rows i }
