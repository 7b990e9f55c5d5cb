-- What words ask of a row.
use Rattle.std.proofs.Common.{◌≡◌, ◌≢◌, ◌≤◌, ◌-◌, List, [], ◌∷◌, ℕ, Option, Some, None, IfNone, IfSome, get_or, map, drop, take, length, sym, ap, ◌∙◌, subst, arith}
use Rattle.std.proofs.lemmas.List.{take_all}
use Rattle.sift_options.specs.Options.{AreOptions, numbers_in}
use Rattle.sift_row.specs.Row.{Asks, Row}

-- a list of which the first is x, as x and the rest
pub map-first : {A B : Type 0} (f : A → B) (xs : List A) (x : A) → 1 ≤ length xs → x ≡ get_or xs 0 x →
    map f xs ≡ f x ∷ map f (take (length xs - 1) (drop 1 xs))
map-first f [] x some is = absurd (omega arith)
map-first f (y ∷ ys) x some is =
    ap (λ z. f z ∷ map f ys) (sym is) ∙ ap (λ zs. f x ∷ map f zs) (sym (take_all (length (y ∷ ys) - 1) ys (omega arith)))

module _ {Job : Type 0} (row : Row Job) (words : List (List ℕ)) (word : List ℕ) (rest : List (List ℕ)) (are : words ≡ word ∷ rest) where
  -- the words behind the first one
  behind : (job : Job) (asks : Asks row words job) → asks.rest ≡ rest
  behind job asks = ap (drop 1) (sym asks.words_are ∙ are)

  -- another word asks for no job
  pub another_word : word ≢ row.word → (job : Job) → ¬ Asks row words job
  another_word other job asks = other (ap (λ (ws : List (List ℕ)). get_or ws 0 []) (sym are ∙ asks.words_are))

  -- nor do words that are no options
  pub no_options : ¬ AreOptions row.flags rest → (job : Job) → ¬ Asks row words job
  no_options none job asks = none (subst (λ (ws : List (List ℕ)). AreOptions row.flags ws) (behind job asks) asks.options)

  module _ (result : Option Job) (is : result ≡ row.job_of (numbers_in rest)) where
    -- what options ask for is asked for
    pub found : word ≡ row.word → AreOptions row.flags rest → IfSome result (Asks row words)
    found at options = by result is
      where
        by : (came : Option Job) → came ≡ row.job_of (numbers_in rest) → IfSome came (Asks row words)
        by (Some job) same = record { rest = rest; words_are = are ∙ ap (λ (w : List ℕ). w ∷ rest) at; options = options; asked = sym same }
        by None same = tt

    -- and where they ask for nothing, nothing is
    pub not_found : IfNone result ((job : Job) → ¬ Asks row words job)
    not_found = by result is
      where
        by : (came : Option Job) → came ≡ row.job_of (numbers_in rest) → IfNone came ((job : Job) → ¬ Asks row words job)
        by (Some job) same = tt
        by None same = λ job asks.
            let there : row.job_of (numbers_in asks.rest) ≡ row.job_of (numbers_in rest) = ap (λ (ws : List (List ℕ)). row.job_of (numbers_in ws)) (behind job asks) in
            let some = sym asks.asked ∙ (there ∙ sym same) in cc
