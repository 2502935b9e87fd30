-- Each outside record of a station, and what remains of the station there, match: the record leads to what its first statement leaves.
-- By induction on the statements. Assumes nothing.
use mathlib.Core.Path.{◌≡◌, refl, ap}
use mathlib.Core.Bool.{true, false}
use mathlib.Core.List.{List, ◌++◌}
use Prim.Native.Nat.{ℕ, suc, ◌+◌, ◌≤◌}
use native.Mathlib.Omega.{arith}
use lib.ListN.{length, length-append}
use Rattle.rules.specs.Names.{SKIP, SET, IF, WHILE, AWAIT, STOP}
use Rattle.rules.specs.Records.{Record, ListRecord, list_record_at, list_count}
use Rattle.rules.specs.Trees.{Statements, size}
use Rattle.rules.specs.Build.{bare, listed, start_of, laid}
use Rattle.rules.specs.Move.{body_run}
use Rattle.reading.specs.Reading.{Proper, end, skips, assigns, branches, loops, awaits}
use Rattle.built.proofs.Along.{Along, along_left, along_right}
use Rattle.built.proofs.Standing.{apart, together}
use Rattle.language.specs.Language.{skip, assign, if_fi, while_od, await_end, Program, E, ◌before◌, ◌⨾◌, ⟨◌∣◌⟩⟶*⟨◌∣◌⟩}
use Rattle.language.specs.Rests.{program_of, rests}
use Rattle.language.proofs.Bodies.{Spelt, body_ends}

pub length_rests : (t : Statements) (K : Program) → length (rests K t) ≡ size t
unfolding rests size
length_rests Statements.nothing K = refl
length_rests (Statements.skip rest) K = ap suc (length_rests rest K)
length_rests (Statements.assign r rest) K = ap suc (length_rests rest K)
length_rests (Statements.branch r x y rest) K =
    let h = length_rests x in
    let k = length_rests y in
    let l = length_rests rest in
    simp (length-append, h, k, l) (omega arith)
length_rests (Statements.loop r x rest) K =
    let h = length_rests x in
    let l = length_rests rest in
    simp (length-append, h, l) (omega arith)
length_rests (Statements.await r x rest) K =
    let h = length_rests x in
    let l = length_rests rest in
    simp (length-append, h, l) (omega arith)

rests_apart : (P : ℕ → Program → Type 0) (p : ℕ) (K : Program) (x : Statements) (Ss : List Program) → Along P p (rests K x ++ Ss)
    → Along P p (rests K x) × Along P (p + size x) Ss
rests_apart P p K x Ss h = (along_left P p (rests K x) Ss h, rw length_rests at (along_right P p (rests K x) Ss h))

module _ (list : List ℕ) (means : ℕ → Program) where
  -- an outside record, and what remains there: the first statement is the record's, and the record leads to what the statement leaves
  pub data Matches : ListRecord → Program → Type 0 where
    at_skip : {station t : ℕ} {K : Program} → means t ≡ K → Matches (listed (bare SKIP 0) station 0 t 0) (skip before K)
    at_assign : {station t : ℕ} {r : Record} {K : Program} → r.kind ≡ SET → means t ≡ K
        → Matches (listed r station 0 t 0) (assign r before K)
    at_if : {station t u : ℕ} {r : Record} {S T K : Program} → r.kind ≡ IF → means t ≡ S ⨾ K → means u ≡ T ⨾ K
        → Matches (listed r station 0 t u) (if_fi r S T before K)
    at_while : {station t u : ℕ} {r : Record} {S K : Program} → r.kind ≡ WHILE → means t ≡ S ⨾ (while_od r S before K) → means u ≡ K
        → Matches (listed r station 0 t u) (while_od r S before K)
    at_await : {station t u : ℕ} {r : Record} {S K : Program} → r.kind ≡ AWAIT
        → ((σ : List ℕ) → ⟨ S ∣ σ ⟩⟶*⟨ E ∣ body_run list (list_count list) t σ ⟩) → means u ≡ K
        → Matches (listed r station 0 t u) (await_end r S before K)
    at_stop : {station : ℕ} → Matches (listed (bare STOP 0) station 0 0 0) E

-- the bytes of a list, and what remains of each station at each place
module _ (list : List ℕ) (means : ℕ → ℕ → Program) where
  -- the record at the place q, if it is an outside one, matches what remains of its station there; e is any record
  abbrev pub RightAt : ℕ → ListRecord → Type 0
  RightAt q e =
      (list_record_at list q).inside ≡ 0
      → Matches list (means (list_record_at list q).station) (list_record_at list q) (means (list_record_at list q).station q)

  module _ (station : ℕ) where
    -- of this station, S remains at the place q
    abbrev pub Means : ℕ → Program → Type 0
    Means q S = means station q ≡ S

    -- at the first step of statements they remain whole, and then what comes after them
    pub starts : (t : Statements) (p exit : ℕ) (K : Program) → Means exit K → Along Means p (rests K t) → Means (start_of p exit t) (program_of t ⨾ K)
    unfolding rests program_of
    starts Statements.nothing p exit K e h = e
    starts (Statements.skip rest) p exit K e h = h.0
    starts (Statements.assign r rest) p exit K e h = h.0
    starts (Statements.branch r x y rest) p exit K e h = h.0
    starts (Statements.loop r x rest) p exit K e h = h.0
    starts (Statements.await r x rest) p exit K e h = h.0

    -- a body's records are no outside ones
    inside_right : {t : Statements} → Proper true t → (p exit : ℕ) → Along (Spelt list) p (laid station 1 p exit t)
        → Along RightAt p (laid station 1 p exit t)
    unfolding laid
    inside_right end p exit h = tt
    inside_right (skips k) p exit h = (rw h.0 (λ z. absurd (omega arith)), inside_right k (suc p) exit h.1)
    inside_right (assigns i k) p exit h = (rw h.0 (λ z. absurd (omega arith)), inside_right k (suc p) exit h.1)
    inside_right (branches {x = x} {y = y} {rest = rest} i s c t d k) p exit h =
        let at_y : ℕ = suc p + size x in
        let at_rest : ℕ = at_y + size y in
        let next : ℕ = start_of at_rest exit rest in
        let ys = laid station 1 at_y next y in
        let rs = laid station 1 at_rest exit rest in
        let hx = apart (Spelt list) station 1 (suc p) next x (ys ++ rs) h.1 in
        let hy = apart (Spelt list) station 1 at_y next y rs hx.1 in (
          rw h.0 (λ z. absurd (omega arith)),
          together RightAt station 1 (suc p) next x (ys ++ rs) (inside_right c (suc p) next hx.0)
              (together RightAt station 1 at_y next y rs (inside_right d at_y next hy.0) (inside_right k at_rest exit hy.1)),
        )

    pub matched : {t : Statements} → Proper false t → (p exit : ℕ) (K : Program) → p + size t ≤ list_count list → Means exit K
        → Along (Spelt list) p (laid station 0 p exit t) → Along Means p (rests K t) → Along RightAt p (laid station 0 p exit t)
    unfolding laid size rests program_of
    matched end p exit K l e h m = tt
    matched (skips {rest = rest} k) p exit K l e h m = (
      rw h.0 (λ z. rw m.0 (at_skip (starts rest (suc p) exit K e m.1))),
      matched k (suc p) exit K (omega arith) e h.1 m.1,
    )
    matched (assigns {rest = rest} i k) p exit K l e h m = (
      rw h.0 (λ z. rw m.0 (at_assign i (starts rest (suc p) exit K e m.1))),
      matched k (suc p) exit K (omega arith) e h.1 m.1,
    )
    matched (branches {x = x} {y = y} {rest = rest} i s c t d k) p exit K l e h m =
        let at_y : ℕ = suc p + size x in
        let at_rest : ℕ = at_y + size y in
        let next : ℕ = start_of at_rest exit rest in
        let after : Program = program_of rest ⨾ K in
        let ys = laid station 0 at_y next y in
        let rs = laid station 0 at_rest exit rest in
        let hx = apart (Spelt list) station 0 (suc p) next x (ys ++ rs) h.1 in
        let hy = apart (Spelt list) station 0 at_y next y rs hx.1 in
        let mx = rests_apart Means (suc p) after x (rests after y ++ rests K rest) m.1 in
        let my = rests_apart Means at_y after y (rests K rest) mx.1 in
        let over : Means next after = starts rest at_rest exit K e my.1 in (
          rw h.0 (λ z. rw m.0 (at_if i (starts x (suc p) next after over mx.0) (starts y at_y next after over my.0))),
          together RightAt station 0 (suc p) next x (ys ++ rs) (matched c (suc p) next after (omega arith) over hx.0 mx.0)
              (together RightAt station 0 at_y next y rs (matched d at_y next after (omega arith) over hy.0 my.0)
              (matched k at_rest exit K (omega arith) e hy.1 my.1)),
        )
    matched (loops {r = r} {x = x} {rest = rest} i s c k) p exit K l e h m =
        let at_rest : ℕ = suc p + size x in
        let again : Program = program_of (Statements.loop r x rest) ⨾ K in
        let rs = laid station 0 at_rest exit rest in
        let hx = apart (Spelt list) station 0 (suc p) p x rs h.1 in
        let mx = rests_apart Means (suc p) again x (rests K rest) m.1 in (
          rw h.0 (λ z. rw m.0 (at_while i (starts x (suc p) p again m.0 mx.0) (starts rest at_rest exit K e mx.1))),
          together RightAt station 0 (suc p) p x rs (matched c (suc p) p again (omega arith) m.0 hx.0 mx.0)
              (matched k at_rest exit K (omega arith) e hx.1 mx.1),
        )
    matched (awaits {x = x} {rest = rest} i s c k) p exit K l e h m =
        let at_rest : ℕ = suc p + size x in
        let rs = laid station 0 at_rest exit rest in
        let hx = apart (Spelt list) station 1 (suc p) 0 x rs h.1 in
        let mx = rests_apart Means (suc p) E x (rests K rest) m.1 in (
          rw h.0 (λ z. rw m.0 (at_await i (body_ends list station s c (list_count list) (suc p) (omega arith) (omega arith) hx.0) (starts rest at_rest exit K e mx.1))),
          together RightAt station 1 (suc p) 0 x rs (inside_right c (suc p) 0 hx.0) (matched k at_rest exit K (omega arith) e hx.1 mx.1),
        )
