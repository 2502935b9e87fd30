-- The records of statements, laid from a place on, are right at their places, where what comes after the statements is. By induction on
-- the statements. Assumes nothing.
use mathlib.Core.Path.{◌≡◌, refl, ap}
use mathlib.Core.Bool.{Bool, true, false}
use mathlib.Core.Logic.{inl, inr}
use mathlib.Core.List.{List, ◌∷◌, ◌++◌}
use Prim.Native.Nat.{ℕ, suc, ◌+◌, ◌≤◌, ◌<◌}
use native.Mathlib.Nat.{add-zero}
use native.Mathlib.Omega.{arith}
use Rattle.rules.specs.Names.{ELSE, FI, OD, END}
use Rattle.rules.specs.Records.{Record, ListRecord}
use Rattle.rules.specs.Trees.{Statements, nothing, skip, assign, branch, loop, await, size}
use Rattle.rules.specs.Build.{bare, listed, start_of, laid}
use Rattle.reading.specs.Reading.{flat, Some, Proper, end, skips, assigns, branches, loops, awaits}
use Rattle.built.specs.Targets.{StandsAt}
use Rattle.built.proofs.Along.{Along, All, all_left, all_right}
use Rattle.built.proofs.Standing.{apart, together}
use Rattle.built.proofs.Right.{byte, Good, Names, Leads, Later, skip_right, set_right, if_right, while_right, await_right}

pub some_start : (x : Statements) (p after : ℕ) → Some x → start_of p after x ≡ p
some_start nothing p after s = absurd s
some_start (skip rest) p after s = refl
some_start (assign r rest) p after s = refl
some_start (branch r x y rest) p after s = refl
some_start (loop r x rest) p after s = refl
some_start (await r x rest) p after s = refl

module _ (es : List ListRecord) (n m : ℕ) where
  weaken : (b : Bool) (station p q t : ℕ) → p ≤ q → Leads es n m b station q t → Leads es n m b station p t
  weaken false station p q t l h = h
  weaken true station p q t l (inl e) = inl e
  weaken true station p q t l (inr h) = inr (omega (arith, h.0), h.1)

  module _ (station : ℕ) where
    -- a record of the station leads to itself
    pub here : (b : Bool) (p : ℕ) (r : Record) (t u : ℕ) → n + m ≤ p → StandsAt es p (listed r station (byte b) t u) → Names es n m (byte b) station p
    here b p r t u l h =
        record {
          from = l;
          below = h.0;
          inside_is = ap (λ (e : ListRecord). e.inside) h.1;
          station_is = ap (λ (e : ListRecord). e.station) h.1;
        }

    names_leads : (b : Bool) (p : ℕ) → Names es n m (byte b) station p → Leads es n m b station p p
    names_leads false p h = h
    names_leads true p h = inr (omega arith, h)

    -- and so the first step of statements is right where they and what comes after them are
    pub start_leads : (b : Bool) (t : Statements) (p exit : ℕ) → n + m ≤ p → Along (StandsAt es) p (laid station (byte b) p exit t)
        → Leads es n m b station (p + size t) exit → Leads es n m b station p (start_of p exit t)
    unfolding laid size
    start_leads b nothing p exit l h e = rw (add-zero p) at e
    start_leads b (skip rest) p exit l h e = names_leads b p (here b p _ _ _ l h.0)
    start_leads b (assign r rest) p exit l h e = names_leads b p (here b p _ _ _ l h.0)
    start_leads b (branch r x y rest) p exit l h e = names_leads b p (here b p _ _ _ l h.0)
    start_leads b (loop r x rest) p exit l h e = names_leads b p (here b p _ _ _ l h.0)
    start_leads b (await r x rest) p exit l h e = names_leads b p (here b p _ _ _ l h.0)

    -- an AWAIT's body is not empty, so that its first step is the following record
    body_starts : (x : Statements) (p : ℕ) → Some x → n + m ≤ p → Along (StandsAt es) (suc p) (laid station 1 (suc p) 0 x)
        → Names es n m 1 station (suc p)
    body_starts x p s l h = after (start_leads true x (suc p) 0 (omega arith) h (inl refl))
      where
        after : Leads es n m true station (suc p) (start_of (suc p) 0 x) → Names es n m 1 station (suc p)
        after (inl e) = let z = some_start x (suc p) 0 s in absurd (omega arith)
        after (inr k) = rw (some_start x (suc p) 0 s) at k.1

    module _ (numbered : station < n) where
      pub right_steps : {b : Bool} {t : Statements} → Proper b t → (p exit : ℕ) → n + m ≤ p → All Good (flat t)
          → Along (StandsAt es) p (laid station (byte b) p exit t) → Leads es n m b station (p + size t) exit
          → Along (Later es n m) p (laid station (byte b) p exit t)
      unfolding laid size flat
      right_steps end p exit l g h e = tt
      right_steps {b} (skips {rest = rest} c) p exit l g h e =
          let s : p + suc (size rest) ≡ suc p + size rest = omega arith in
          let after : Leads es n m b station (suc p + size rest) exit = rw s at e in (
            skip_right b numbered (start_leads b rest (suc p) exit (omega arith) h.1 after),
            right_steps c (suc p) exit (omega arith) g.1 h.1 after,
          )
      right_steps {b} (assigns {rest = rest} k c) p exit l g h e =
          let s : p + suc (size rest) ≡ suc p + size rest = omega arith in
          let after : Leads es n m b station (suc p + size rest) exit = rw s at e in (
            set_right b numbered k g.0 (start_leads b rest (suc p) exit (omega arith) h.1 after),
            right_steps c (suc p) exit (omega arith) g.1 h.1 after,
          )
      right_steps {b} (branches {r = r} {x = x} {y = y} {rest = rest} k s c t d f) p exit l g h e =
          let at_y : ℕ = suc p + size x in
          let at_rest : ℕ = at_y + size y in
          let next : ℕ = start_of at_rest exit rest in
          let gy = all_right Good (flat x) (bare ELSE 0 ∷ (flat y ++ (bare FI 0 ∷ flat rest))) g.1 in
          let gr = all_right Good (flat y) (bare FI 0 ∷ flat rest) gy.1 in
          let xs = laid station (byte b) (suc p) next x in
          let ys = laid station (byte b) at_y next y in
          let rs = laid station (byte b) at_rest exit rest in
          let hx = apart (StandsAt es) station (byte b) (suc p) next x (ys ++ rs) h.1 in
          let hy = apart (StandsAt es) station (byte b) at_y next y rs hx.1 in
          let q : p + suc (size x + size y + size rest) ≡ at_rest + size rest = omega arith in
          let after : Leads es n m b station (at_rest + size rest) exit = rw q at e in
          let over : Leads es n m b station at_rest next = start_leads b rest at_rest exit (omega arith) hy.1 after in
          let past : Leads es n m b station at_y next = weaken b station at_y at_rest next (omega arith) over in (
            if_right b numbered k g.0 (start_leads b x (suc p) next (omega arith) hx.0 past)
                (weaken b station (suc p) at_y (start_of at_y next y) (omega arith) (start_leads b y at_y next (omega arith) hy.0 over)),
            together (Later es n m) station (byte b) (suc p) next x (ys ++ rs)
                (right_steps c (suc p) next (omega arith) (all_left Good (flat x) _ g.1) hx.0 past)
                (together (Later es n m) station (byte b) at_y next y rs
                (right_steps d at_y next (omega arith) (all_left Good (flat y) _ gy.1) hy.0 over)
                (right_steps f at_rest exit (omega arith) gr.1 hy.1 after)),
          )
      right_steps (loops {r = r} {x = x} {rest = rest} k s c f) p exit l g h e =
          let at_rest : ℕ = suc p + size x in
          let next : ℕ = start_of at_rest exit rest in
          let gr = all_right Good (flat x) (bare OD 0 ∷ flat rest) g.1 in
          let rs = laid station 0 at_rest exit rest in
          let hx = apart (StandsAt es) station 0 (suc p) p x rs h.1 in
          let back = here false p _ _ _ l h.0 in
          let over = start_leads false rest at_rest exit (omega arith) hx.1 e in (
            while_right numbered k g.0 (start_leads false x (suc p) p (omega arith) hx.0 back) over,
            together (Later es n m) station 0 (suc p) p x rs
                (right_steps c (suc p) p (omega arith) (all_left Good (flat x) _ g.1) hx.0 back)
                (right_steps f at_rest exit (omega arith) gr.1 hx.1 e),
          )
      right_steps (awaits {r = r} {x = x} {rest = rest} k s c f) p exit l g h e =
          let at_rest : ℕ = suc p + size x in
          let next : ℕ = start_of at_rest exit rest in
          let gr = all_right Good (flat x) (bare END 0 ∷ flat rest) g.1 in
          let rs = laid station 0 at_rest exit rest in
          let hx = apart (StandsAt es) station 1 (suc p) 0 x rs h.1 in
          let over = start_leads false rest at_rest exit (omega arith) hx.1 e in (
            await_right numbered k g.0 (body_starts x p s l hx.0) over,
            together (Later es n m) station 1 (suc p) 0 x rs
                (right_steps c (suc p) 0 (omega arith) (all_left Good (flat x) _ g.1) hx.0 (inl refl))
                (right_steps f at_rest exit (omega arith) gr.1 hx.1 e),
          )
