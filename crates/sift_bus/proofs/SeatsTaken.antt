-- Units that take their seats one by one.
use Rattle.std.proofs.Common.{◌≡◌, ℕ, zero, suc, ◌<◌, List, [], ◌∷◌, ◌++◌, length, length-append, append-nil, slice_index_or, All, refl, sym, ap, ◌∙◌, subst, arith}
use Rattle.std.proofs.Math.Seq.{get_or-append_seam}
use Rattle.sift_base.specs.declared.slots.Layout.{Layout}
use Rattle.sift_buffer.specs.Tables.{ranges_of}
use Rattle.sift_buffer.specs.Views.{fresh_view}
use Rattle.sift_mission.specs.Data.{FlownMission}
use Rattle.sift_unit.specs.Boards.{Drives}
use Rattle.sift_ether.specs.Tokens.{IsMade, IsTokenOf, token_view}
use Rattle.sift_ether.specs.declared.ether.Ether.{Ether}
use Rattle.sift_ether.specs.declared.seat.Token.{Token}
use Rattle.sift_bus.specs.Boarding.{AreBoarded, Boarded, IsBoarded, IsNewToken, seat_view}

-- a list that is as long as itself and others together is all of them
pub no_rest : {X : Type 0} (xs rest ys : List X) → xs ++ rest ≡ ys → length xs ≡ length ys → xs ≡ ys
no_rest xs [] ys all long = sym (append-nil xs) ∙ all
no_rest xs (r ∷ rs) ys all long = absurd (omega (arith, ap length all, length-append xs (r ∷ rs)))

-- one list before something is shorter than all
pub shorter : {X : Type 0} (xs rest ys : List X) (x : X) → xs ++ (x ∷ rest) ≡ ys → length xs < length ys
shorter xs rest ys x all = omega (arith, ap length all, length-append xs (x ∷ rest))

-- the next token is that of the next unit
pub new_token : (e : Ether) (layout : Layout) (frames u : ℕ) (tokens taken rest : List Token) (t : Token) → IsMade e tokens layout frames →
    taken ++ (t ∷ rest) ≡ tokens → u ≡ length taken → u < layout.units → IsNewToken e u t
new_token e layout frames u tokens taken rest t made all here low = record {
  of = subst (λ (s : Token). IsTokenOf e s) is (made.all.of u t there);
  unit = ap (λ (s : Token). s.unit) (sym is) ∙ made.all.unit u t there;
  view = ap (λ (s : Token). token_view e s) (sym is)
      ∙ (made.new u t low ∙ sym (λ i. fresh_view (ranges_of (made.layout_is i) (made.frames_are i)) u));
}
  where
    there : u < e.grid.layout.units
    there = subst (λ (l : Layout). u < l.units) (sym made.layout_is) low

    is : slice_index_or tokens u t ≡ t
    is = (λ i. slice_index_or (sym all i) (here i) t) ∙ get_or-append_seam taken t rest t

module _ {B : Type 0} (m : FlownMission) (e : Ether) (faulty : ℕ) where
  -- the lists are equally long
  pub boarded_long : (ts : List Token) (bs : List B) (xs : List (Boarded B)) → AreBoarded m e faulty ts bs xs →
      (length ts ≡ length bs) × (length xs ≡ length bs)
  boarded_long [] [] [] all = (refl, refl)
  boarded_long [] [] (x ∷ xs) all = absurd all
  boarded_long [] (b ∷ bs) xs all = absurd all
  boarded_long (t ∷ ts) [] xs all = absurd all
  boarded_long (t ∷ ts) (b ∷ bs) [] all = absurd all
  boarded_long (t ∷ ts) (b ∷ bs) (x ∷ xs) all = let long = boarded_long ts bs xs all.1 in (ap suc long.0, ap suc long.1)

  -- where a bus is still to come, the units so far have a token each, and are fewer than the buses
  pub boarded_before : (ts : List Token) (bs left rest all : List B) (b : B) (xs : List (Boarded B)) → AreBoarded m e faulty ts bs xs →
      left ≡ b ∷ rest → bs ++ left ≡ all → (length ts ≡ length xs) × (length xs < length all)
  boarded_before ts bs left rest all b xs boarded next are =
      let long = boarded_long ts bs xs boarded in
      let less = shorter bs rest all b (ap (λ ys. bs ++ ys) (sym next) ∙ are) in
      (omega (arith, long.0, long.1), omega (arith, long.1, less))

  -- one unit more
  pub boarded_push : (ts : List Token) (bs : List B) (xs : List (Boarded B)) (t : Token) (b : B) (x : Boarded B) → AreBoarded m e faulty ts bs xs →
      IsBoarded m e faulty t b x → AreBoarded m e faulty (ts ++ (t ∷ [])) (bs ++ (b ∷ [])) (xs ++ (x ∷ []))
  boarded_push [] [] [] t b x all one = (one, tt)
  boarded_push [] [] (y ∷ ys) t b x all one = absurd all
  boarded_push [] (c ∷ cs) ys t b x all one = absurd all
  boarded_push (s ∷ ss) [] ys t b x all one = absurd all
  boarded_push (s ∷ ss) (c ∷ cs) [] t b x all one = absurd all
  boarded_push (s ∷ ss) (c ∷ cs) (y ∷ ys) t b x all one = (all.0, boarded_push ss cs ys t b x all.1 one)

  -- each of them
  pub boarded_at : (ts : List Token) (bs : List B) (xs : List (Boarded B)) (i : ℕ) (t : Token) (b : B) (x : Boarded B) → AreBoarded m e faulty ts bs xs →
      i < length bs → IsBoarded m e faulty (slice_index_or ts i t) (slice_index_or bs i b) (slice_index_or xs i x)
  boarded_at [] [] xs i t b x all low = absurd (omega arith)
  boarded_at [] (c ∷ cs) xs i t b x all low = absurd all
  boarded_at (s ∷ ss) [] xs i t b x all low = absurd all
  boarded_at (s ∷ ss) (c ∷ cs) [] i t b x all low = absurd all
  boarded_at (s ∷ ss) (c ∷ cs) (y ∷ ys) zero t b x all low = all.0
  boarded_at (s ∷ ss) (c ∷ cs) (y ∷ ys) (suc i) t b x all low = boarded_at ss cs ys i t b x all.1 (omega arith)

  -- each of them may step
  pub boarded_drive : (ts : List Token) (bs : List B) (xs : List (Boarded B)) → AreBoarded m e faulty ts bs xs → All (λ x. Drives m x.seat.board (seat_view x)) xs
  boarded_drive [] [] [] all k d low = absurd (omega arith)
  boarded_drive [] [] (x ∷ xs) all k d low = absurd all
  boarded_drive [] (b ∷ bs) xs all k d low = absurd all
  boarded_drive (t ∷ ts) [] xs all k d low = absurd all
  boarded_drive (t ∷ ts) (b ∷ bs) [] all k d low = absurd all
  boarded_drive (t ∷ ts) (b ∷ bs) (x ∷ xs) all zero d low = all.0.drives
  boarded_drive (t ∷ ts) (b ∷ bs) (x ∷ xs) all (suc k) d low = boarded_drive ts bs xs all.1 k d (omega arith)
