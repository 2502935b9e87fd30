-- Where the parts of a list stand in it. Assumes nothing.
use mathlib.Core.Path.{◌≡◌, refl}
use mathlib.Core.List.{List, ◌++◌, map}
use Prim.Native.Nat.{ℕ, ◌+◌}
use native.Mathlib.Nat.{zero-add}
use native.Mathlib.Omega.{arith}
use lib.ListN.{length, length-map}
use Rattle.rules.specs.Records.{Record, ListRecord}
use Rattle.rules.specs.Trees.{Statements, size}
use Rattle.rules.specs.Build.{initial_record, laid, inits, bodies, list_of}
use Rattle.built.specs.Targets.{blank, StandsAt}
use Rattle.built.proofs.Along.{Along, along_left, along_right, along_join, along_all}
use Rattle.built.proofs.Lengths.{length_laid, length_inits}

-- statements and what is laid after them, apart and together
module _ (P : ℕ → ListRecord → Type 0) (station inside p after : ℕ) (x : Statements) (es : List ListRecord) where
  pub apart : Along P p (laid station inside p after x ++ es) → Along P p (laid station inside p after x) × Along P (p + size x) es
  apart h =
      let xs = laid station inside p after x in
      (along_left P p xs es h, rw length_laid at (along_right P p xs es h))

  pub together : Along P p (laid station inside p after x) → Along P (p + size x) es → Along P p (laid station inside p after x ++ es)
  together h k = along_join P p (laid station inside p after x) es h (rw length_laid k)

-- the parts of a list: INIT records, the initial part, and the stations
module _ (P : ℕ → ListRecord → Type 0) (initial : List Record) (stations : List Statements) where
  abbrev n : ℕ
  n = length stations

  abbrev m : ℕ
  m = length initial

  abbrev is : List ListRecord
  is = inits 0 (n + m) stations

  abbrev ms : List ListRecord
  ms = map initial_record initial

  abbrev bs : List ListRecord
  bs = bodies 0 (n + m) stations

  after_inits : 0 + length is ≡ n
  after_inits = omega (arith, length_inits 0 (n + m) stations)

  after_initial : n + length ms ≡ n + m
  after_initial = rw length-map

  pub parts_apart : Along P 0 (list_of initial stations) → Along P 0 is × Along P n ms × Along P (n + m) bs
  unfolding list_of
  parts_apart h =
      let k : Along P n (ms ++ bs) = rw after_inits at (along_right P 0 is (ms ++ bs) h) in
      (along_left P 0 is (ms ++ bs) h, along_left P n ms bs k, rw after_initial at (along_right P n ms bs k))

  pub parts_together : Along P 0 is → Along P n ms → Along P (n + m) bs → Along P 0 (list_of initial stations)
  unfolding list_of
  parts_together hi hm hb =
      along_join P 0 is (ms ++ bs) hi (rw after_inits (along_join P n ms bs hm (rw after_initial hb)))

-- each record stands at its place
pub standing : (es : List ListRecord) → Along (StandsAt es) 0 es
standing es = along_all (StandsAt es) 0 es blank (λ i l. rw zero-add (l, refl))
