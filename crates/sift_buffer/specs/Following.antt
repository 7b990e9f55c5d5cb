-- A rack follows itself, and what follows it further on.
use Rattle.std.proofs.Common.{◌≡◌, ℕ, List, [], ◌∷◌, ◌++◌, append_assoc, sym, refl, ap, ◌∙◌, subst, eq-eqb, ne_eqb}
use mathlib.Core.Logic.{dite}
use native.Mathlib.Decide.{ℕ_discrete}
use Rattle.sift_buffer.specs.Ranges.{Ranges}
use Rattle.sift_buffer.specs.Conduct.{Stray}
use Rattle.sift_buffer.specs.Core.{Core, Event, doer, after, after_all, AllAllowed, Allowed}
use Rattle.sift_buffer.specs.Crews.{with_strays}
use Rattle.sift_buffer.specs.Racks.{Follows, ranges_for, core_of}
use Rattle.sift_buffer.specs.Reaches.{Reaches, AllBy}
use Rattle.sift_buffer.specs.Tables.{ranges_of}
use Rattle.sift_buffer.specs.declared.rack.Rack.{Rack}

pub reaches_itself : (r : Ranges) (u : ℕ) (a : Core) → Reaches r u a a
reaches_itself r u a = record { events = []; by = tt; allowed = tt; there = refl }

-- one event reaches the core after it
pub reaches_one : (r : Ranges) (u : ℕ) (a b : Core) (e : Event) → doer e ≡ u → Allowed r a e → after r a e ≡ b → Reaches r u a b
reaches_one r u a b e by may is = record { events = e ∷ []; by = (by, tt); allowed = (may, tt); there = is }

after_both : (r : Ranges) (a : Core) (xs ys : List Event) → after_all r a (xs ++ ys) ≡ after_all r (after_all r a xs) ys
after_both r a [] ys = refl
after_both r a (x ∷ xs) ys = after_both r (after r a x) xs ys

allowed_both : (r : Ranges) (a : Core) (xs ys : List Event) → AllAllowed r a xs → AllAllowed r (after_all r a xs) ys → AllAllowed r a (xs ++ ys)
allowed_both r a [] ys p q = q
allowed_both r a (x ∷ xs) ys p q = (p.0, allowed_both r (after r a x) xs ys p.1 q)

by_both : (u : ℕ) (xs ys : List Event) → AllBy u xs → AllBy u ys → AllBy u (xs ++ ys)
by_both u [] ys p q = q
by_both u (x ∷ xs) ys p q = (p.0, by_both u xs ys p.1 q)

-- one list of events after another
pub reaches_on : (r : Ranges) (u : ℕ) (a b c : Core) → Reaches r u a b → Reaches r u b c → Reaches r u a c
reaches_on r u a b c p q = record {
  events = p.events ++ q.events;
  by = by_both u p.events q.events p.by q.by;
  allowed = allowed_both r a p.events q.events p.allowed (subst (λ (z : Core). AllAllowed r z q.events) (sym p.there) q.allowed);
  there = after_both r a p.events q.events ∙ subst (λ (z : Core). after_all r z q.events ≡ c) (sym p.there) q.there;
}

-- no strays before the others
pub none_more : (w : ℕ → List Stray) (u : ℕ) → with_strays w u [] ≡ w
none_more w u i p = at p i
  where
    at : (p : ℕ) → with_strays w u [] p ≡ w p
    at p = dite (ℕ_discrete p u) (λ e. rw (eq-eqb p u e) (ap w (sym e))) (λ ne. rw (ne_eqb p u ne) refl)

-- later strays before earlier ones, and these before those that were stored before
more_after : (w : ℕ → List Stray) (u : ℕ) (earlier later : List Stray) → with_strays (with_strays w u earlier) u later ≡ with_strays w u (later ++ earlier)
more_after w u earlier later i p = at p i
  where
    at : (p : ℕ) → with_strays (with_strays w u earlier) u later p ≡ with_strays w u (later ++ earlier) p
    at p = dite (ℕ_discrete p u)
        (λ e. rw (eq-eqb p u e, eq-eqb u u refl) (sym (append_assoc later earlier (w u))))
        (λ ne. rw (ne_eqb p u ne) refl)

pub itself : (x : Rack) → Follows x [] x
itself x = record {
  layout = refl;
  frames = refl;
  unit = refl;
  reaches = λ w. subst (λ (v : ℕ → List Stray). Reaches (ranges_for x) x.unit (core_of x w) (core_of x v)) (sym (none_more w x.unit))
      (reaches_itself (ranges_for x) x.unit (core_of x w));
  others = λ p ne. refl;
}

-- the ranges of racks of one layout and number of frames
same_ranges : (x y : Rack) → y.grid.layout ≡ x.grid.layout → y.grid.frames ≡ x.grid.frames → ranges_for y ≡ ranges_for x
same_ranges x y layout frames i = ranges_of (layout i) (frames i)

pub further : (x y z : Rack) (earlier later : List Stray) → Follows x earlier y → Follows y later z → Follows x (later ++ earlier) z
further x y z earlier later a b = record {
  layout = b.layout ∙ a.layout;
  frames = b.frames ∙ a.frames;
  unit = b.unit ∙ a.unit;
  reaches = λ w.
      let r : Ranges = ranges_for x in let u : ℕ = x.unit in let v : ℕ → List Stray = with_strays w u earlier in
      subst (λ (t : ℕ → List Stray). Reaches r u (core_of x w) (core_of z t)) (more_after w u earlier later)
      (reaches_on r u (core_of x w) (core_of y v) (core_of z (with_strays v u later)) (a.reaches w)
      (subst (λ (p : ℕ). Reaches r p (core_of y v) (core_of z (with_strays v p later))) a.unit
      (subst (λ (s : Ranges). Reaches s y.unit (core_of y v) (core_of z (with_strays v y.unit later))) (same_ranges x y a.layout a.frames) (b.reaches v))));
  others = λ p ne. b.others p (λ e. ne (e ∙ a.unit)) ∙ a.others p ne;
}
