-- A chain over a file's whole records, eight bytes each: how many of them pass is how many of the records do. Assumes nothing.
use Rattle.std.proofs.Common.{◌≡◌, refl, sym, ap, subst, ◌∙◌, ℕ, suc, ◌+◌, ◌*◌, ◌/◌, ◌<◌, ◌≤◌, Bool, true, List, [], ◌∷◌, length, get_or, slice_index_or, arith, Bor, add-zero, zero-add}
use Rattle.std.specs.Prelude.{cond, Option, None, Some, IfSome}
use Rattle.std.specs.Option.{option_map}
use Rattle.std.specs.List.{fold, IsSubsliceAt}
use Rattle.std.specs.Iterator.Runs.{Run, IsChunksExactRun}
use Rattle.rules.specs.Words.{tally}
use Rattle.rules.specs.Records.{record_at, record_from}
use Rattle.laws.proofs.Choice.{by_test}

-- items that pass where the places do
tally_items :
    {A : Type 0} (g : A → Bool) (f : ℕ → Bool) (items : List A) (n : ℕ) →
    ((k : ℕ) (d : A) → k < length items → g (get_or items k d) ≡ f k) →
    fold (λ a x. a + cond (g x) 1 0) n items ≡ n + tally f (length items)
unfolding tally
tally_items g f [] n h = sym (add-zero n)
tally_items g f (x ∷ items) n h =
    let e : g x ≡ f 0 = h 0 x (omega arith) in
    tally_items g (λ k. f (suc k)) items (n + cond (g x) 1 0) (λ k d l. h (suc k) d (omega arith))
    ∙ by_test (f 0) (λ t. rw (e, t) (omega arith)) (λ t. rw (e, t) (omega arith))

held : {A : Type 0} (P : A → Type 0) (o : Option A) (v : A) → option_map (λ y. y) o ≡ Some v → IfSome o P → P v
held P None v e h = absurd (cc)
held P (Some x) v e h = let k : x ≡ v = cc in subst P k h

kind_at : (file : List ℕ) (i : ℕ) → (record_at file i).kind ≡ get_or file (8 * i) 0
unfolding record_from
kind_at file i = refl

-- by the kind of a record, its first byte
pub tally_chunks :
    {S : Type 0} {steps : S → Option (Bor (List ℕ)) → S → Type 0} (p : Run steps) (file : List ℕ) (test : ℕ → Bool) (size : ℕ) (rest : List ℕ) →
    p.whole ≡ true → size ≡ 8 → rest ≡ file → (0 < size → IsChunksExactRun p size rest) →
    fold (λ n x. n + cond (test (slice_index_or x.now 0 0)) 1 0) 0 p.items ≡ tally (λ i. test (record_at file i).kind) (length file / 8)
tally_chunks p file test size rest whole eight all h =
    let k = rw (eight, all) at (h (omega arith)) in
    let n : length p.items ≡ length file / 8 = sym p.long ∙ k.1 whole in
    tally_items (λ x. test (slice_index_or x.now 0 0)) (λ i. test (record_at file i).kind) p.items 0 (λ i d l.
    let e = held (λ x. (length x.now ≡ 8) × (i * 8 + 8 ≤ length file) × IsSubsliceAt 8 file (i * 8) x.now)
    (p.at i) (slice_index_or p.items i d) (p.reads i d (omega (arith, p.long))) (k.2 i) in
    let at : i * 8 + 0 ≡ 8 * i = omega arith in
    ap test (e.2.2 0 0 (omega arith) ∙ rw (at, kind_at file i)))
    ∙ rw (zero-add, n)
