-- What a trace comes to is the same after a piece as before it. Assumes nothing.
use mathlib.Core.Path.{◌≡◌, refl, sym}
use mathlib.Core.Bool.{true, false, true≢false}
use mathlib.Core.List.{List}
use Prim.Native.Nat.{ℕ, suc, ◌-◌, ◌*◌, ◌/◌, ◌<◌}
use native.Mathlib.Nat.{sub-zero}
use native.Mathlib.Omega.{arith}
use borrow.Author.Tests.{ltb-true, ltb-false}
use lib.Dec.{eqb, ltb}
use lib.ListN.{length, take}
use Rattle.rules.specs.Records.{pick_at}
use Rattle.rules.specs.State.{State}
use Rattle.rules.specs.Lent.{Lent}
use Rattle.rules.specs.Trace.{taken_pick, wrong_picks}
use Rattle.laws.proofs.Choice.{by_test}
use Rattle.tracing.specs.Tracing.{Tracing, Piece, pick_piece, piece, all_printed}
use Rattle.tracing.specs.declared.Next.{Next}
use Rattle.tracing.specs.declared.Next.TheVariants.{Start, Pick, End, Nothing}
use Rattle.reaching.specs.Reaching.{Reached, last_pick, stop, reached_after}

abbrev at : State → ℕ → Next → Tracing
at s count next = record { state = s; count = count; next = next }

-- where all is printed it has come to what it is
abbrev come_to : List ℕ → Lent → Tracing → Reached
come_to text lent t = record { state = t.state; count = t.count; text = text; lent = lent }

-- the same after the next piece
abbrev Same : List ℕ → List ℕ → List ℕ → Lent → Tracing → Type 0
Same text list picks lent t =
    let p = piece list picks lent t in reached_after p.text list picks p.lent p.tracing ≡ reached_after text list picks lent t

module _ (text list picks : List ℕ) (lent : Lent) (s : State) (count : ℕ) where
  start_same : Same text list picks lent (at s count Start)
  unfolding piece stop reached_after
  start_same = by_test (wrong_picks picks) (λ yes. rw yes) (λ no. rw (no, sub-zero))

  end_same : (number : ℕ) → Same text list picks lent (at s count (End number))
  unfolding piece stop reached_after
  end_same number = refl

  pick_same : (i : ℕ) → Same text list picks lent (at s count (Pick i))
  unfolding piece pick_piece stop reached_after last_pick
  pick_same i =
      let a = taken_pick (take (16 * count) list) s lent (pick_at picks i) in
      by_test (ltb i (length picks / 2))
      (λ yes.
      let more : i < length picks / 2 = ltb-true _ _ yes in
      let e : length picks / 2 - i ≡ suc (length picks / 2 - suc i) = omega arith in
      by_test (eqb a.number 0) (λ taken. rw (yes, e, taken)) (λ refused. rw (yes, e, refused)))
      (λ no.
      let e : length picks / 2 - i ≡ 0 = omega (arith, ltb-false i (length picks / 2) no) in
      rw (no, e))

  same : (next : Next) → all_printed (at s count next) ≡ false → Same text list picks lent (at s count next)
  same Start more = start_same
  same (Pick i) more = pick_same i
  same (End number) more = end_same number
  same Nothing more = absurd (true≢false more)

  done : (next : Next) → all_printed (at s count next) ≡ true
      → reached_after text list picks lent (at s count next) ≡ come_to text lent (at s count next)
  unfolding stop reached_after
  done Start e = absurd (true≢false (sym e))
  done (Pick i) e = absurd (true≢false (sym e))
  done (End number) e = absurd (true≢false (sym e))
  done Nothing e = refl

module _ (text list picks : List ℕ) (lent : Lent) (t : Tracing) where
  pub same_after : {p : Piece} → all_printed t ≡ false → p ≡ piece list picks lent t
      → reached_after p.text list picks p.lent p.tracing ≡ reached_after text list picks lent t
  same_after more is = rw is (same text list picks lent t.state t.count t.next more)

  pub come : all_printed t ≡ true → reached_after text list picks lent t ≡ come_to text lent t
  come = done text list picks lent t.state t.count t.next
