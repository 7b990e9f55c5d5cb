-- Refusals by their kinds: what stands at a place for each, and that the first of the list is the first kind.
use Rattle.std.proofs.Common.{◌≡◌, ◌≢◌, ℕ, zero, suc, ◌-◌, ◌<◌, ◌≤◌, ◌==◌, if◌then◌else◌, inl, inr, List, [], ◌++◌, length, drop, refl, sym, ap, ◌∙◌, subst, arith}
use Rattle.std.proofs.lemmas.Bool.{cases_lt}
use Rattle.sift_parse.specs.declared.task.ParseStop.{ParseStop}
use Rattle.sift_parse.specs.declared.task.ParseStop.TheVariants as stop
use Rattle.sift_parse.specs.declared.task.Which.TheVariants as which
use Rattle.sift_parse.specs.Lexeme.{Lexeme, IsLexeme, Placed, Lexes, text_limit}
use Rattle.sift_parse.specs.Outcome.{IsStopped}
use Rattle.sift_parse.specs.Refusal.{IsLongName, IsLargeNumber, IsManyRounds, IsManyLocals, IsDeepLevel, IsUnknownName, IsLaterTask, BeginsWith, IsNoSyntax, refusals_at, FirstGives, lexemes_of, NoneBefore, IsRefused}
use Rattle.sift_parse.specs.Roll.{Roll}
use Rattle.sift_parse.specs.Scanned.{Kind, no_lexeme_here, no_syntax, long_name, large_number, many_rounds, many_locals, deep_level, unknown_name, later_task, order_of}
use Rattle.sift_parse.specs.Tokens.{place_after}

-- ---- kinds

-- the refusal stands at a place: with these lexemes before it, and with the text from it on
abbrev pub Stands : Roll → List Lexeme → List ℕ → Kind → Type 0
Stands r front text no_lexeme_here = (text ≢ []) × ((l : Lexeme) (rest : List ℕ) → ¬ IsLexeme text l rest)
Stands r front text no_syntax = IsNoSyntax r front text
Stands r front text long_name = BeginsWith text IsLongName
Stands r front text large_number = BeginsWith text IsLargeNumber
Stands r front text many_rounds = BeginsWith text (IsManyRounds (place_after front))
Stands r front text many_locals = BeginsWith text (IsManyLocals (place_after front))
Stands r front text deep_level = BeginsWith text (IsDeepLevel (place_after front))
Stands r front text unknown_name = BeginsWith text (IsUnknownName r (place_after front))
Stands r front text later_task = BeginsWith text (IsLaterTask r (place_after front))

-- the answer to a kind at a place
abbrev pub stop_for : Kind → ℕ → ParseStop
stop_for no_lexeme_here at = stop.Lex at
stop_for no_syntax at = stop.Syntax at
stop_for long_name at = stop.Limit which.Name at
stop_for large_number at = stop.Limit which.Number at
stop_for many_rounds at = stop.Limit which.Repeat at
stop_for many_locals at = stop.Limit which.Locals at
stop_for deep_level at = stop.Limit which.Depth at
stop_for unknown_name at = stop.UnknownName at
stop_for later_task at = stop.Later at

-- the kind with this number in their order
abbrev kind_at : ℕ → Kind
kind_at n =
    if n == 0 then no_lexeme_here else
    (if n == 1 then no_syntax else (if n == 2 then long_name else (if n == 3 then large_number else (if n == 4 then many_rounds else
    (if n == 5 then many_locals else (if n == 6 then deep_level else (if n == 7 then unknown_name else later_task)))))))

kind_at-order : (k : Kind) → kind_at (order_of k) ≡ k
kind_at-order no_lexeme_here = refl
kind_at-order no_syntax = refl
kind_at-order long_name = refl
kind_at-order large_number = refl
kind_at-order many_rounds = refl
kind_at-order many_locals = refl
kind_at-order deep_level = refl
kind_at-order unknown_name = refl
kind_at-order later_task = refl

-- two kinds of which none comes before the other are one
pub one_kind : (k j : Kind) → ¬ (order_of k < order_of j) → ¬ (order_of j < order_of k) → k ≡ j
one_kind k j x y =
    let same : order_of k ≡ order_of j = omega arith in
    sym (kind_at-order k) ∙ (ap kind_at same ∙ kind_at-order j)

-- ---- the first of the list

-- no kind whose number in their order is below this one stands
abbrev pub NoneBelow : Roll → List Lexeme → List ℕ → ℕ → Type 0
NoneBelow r front text n = (other : Kind) → order_of other < n → ¬ Stands r front text other

module _ (r : Roll) (front : List Lexeme) (text : List ℕ) where
  none-next : (k : Kind) → NoneBelow r front text (order_of k) → ¬ Stands r front text k → NoneBelow r front text (suc (order_of k))
  none-next k below here other lt h = elim (cases_lt (order_of other) (order_of k)) [
    | inl low ↦ below other low h
    | inr high ↦ here (subst (Stands r front text) (one_kind other k (λ x. omega (arith, high, x)) (λ x. omega (arith, lt, x))) h)
  ]

  -- the first kind that stands gives its answer
  pub first-gives : (k : Kind) (at : ℕ) → Stands r front text k → NoneBelow r front text (order_of k)
      → FirstGives (refusals_at r front text) at (stop_for k at)
  first-gives no_lexeme_here at h f = inl (h, refl)
  first-gives no_syntax at h f = inr (f no_lexeme_here (omega arith), inl (h, refl))
  first-gives long_name at h f = inr (f no_lexeme_here (omega arith), inr (f no_syntax (omega arith), inl (h, refl)))
  first-gives large_number at h f =
      inr (f no_lexeme_here (omega arith), inr (f no_syntax (omega arith), inr (f long_name (omega arith), inl (h, refl))))
  first-gives many_rounds at h f =
      inr (
        f no_lexeme_here (omega arith),
        inr (
          f no_syntax (omega arith),
          inr (
            f long_name (omega arith),
            inr (f large_number (omega arith), inl (h, refl)),
          ),
        ),
      )
  first-gives many_locals at h f =
      inr (
        f no_lexeme_here (omega arith),
        inr (
          f no_syntax (omega arith),
          inr (
            f long_name (omega arith),
            inr (f large_number (omega arith), inr (f many_rounds (omega arith), inl (h, refl))),
          ),
        ),
      )
  first-gives deep_level at h f =
      inr (
        f no_lexeme_here (omega arith),
        inr (
          f no_syntax (omega arith),
          inr (
            f long_name (omega arith),
            inr (f large_number (omega arith), inr (f many_rounds (omega arith), inr (f many_locals (omega arith), inl (h, refl)))),
          ),
        ),
      )
  first-gives unknown_name at h f =
      inr (
        f no_lexeme_here (omega arith),
        inr (
          f no_syntax (omega arith),
          inr (
            f long_name (omega arith),
            inr (
              f large_number (omega arith),
              inr (
                f many_rounds (omega arith),
                inr (
                  f many_locals (omega arith),
                  inr (f deep_level (omega arith), inl (h, refl)),
                ),
              ),
            ),
          ),
        ),
      )
  first-gives later_task at h f =
      inr (
        f no_lexeme_here (omega arith),
        inr (
          f no_syntax (omega arith),
          inr (
            f long_name (omega arith),
            inr (
              f large_number (omega arith),
              inr (
                f many_rounds (omega arith),
                inr (
                  f many_locals (omega arith),
                  inr (f deep_level (omega arith), inr (f unknown_name (omega arith), inl (h, refl))),
                ),
              ),
            ),
          ),
        ),
      )

  -- the kind that gave an answer
  pub record Found (at : ℕ) (s : ParseStop) : Type 0 where
    pub kind : Kind
    pub answers : s ≡ stop_for kind at
    pub stands : Stands r front text kind
    pub first : NoneBelow r front text (order_of kind)

  pub first-found : (at : ℕ) (s : ParseStop) → FirstGives (refusals_at r front text) at s → Found at s
  first-found at s (inl (h, e)) = record { kind = no_lexeme_here; answers = e; stands = h; first = λ other lt x. omega arith }
  first-found at s (inr (a, more)) = after-lexeme more
    where
      to-syntax : NoneBelow r front text 1
      to-syntax = none-next no_lexeme_here (λ other lt x. omega arith) a

      after-lexeme : FirstGives (drop 1 (refusals_at r front text)) at s → Found at s
      after-lexeme (inl (h, e)) = record { kind = no_syntax; answers = e; stands = h; first = to-syntax }
      after-lexeme (inr (b, inl (h, e))) = record { kind = long_name; answers = e; stands = h; first = none-next no_syntax to-syntax b }
      after-lexeme (inr (b, inr (c, inl (h, e)))) =
          record { kind = large_number; answers = e; stands = h; first = none-next long_name (none-next no_syntax to-syntax b) c }
      after-lexeme (inr (b, inr (c, inr (d, rest)))) = after-number (none-next large_number (none-next long_name (none-next no_syntax to-syntax b) c) d) rest
        where
          after-number : NoneBelow r front text 4 → FirstGives (drop 4 (refusals_at r front text)) at s → Found at s
          after-number n (inl (h, e)) = record { kind = many_rounds; answers = e; stands = h; first = n }
          after-number n (inr (f, inl (h, e))) = record { kind = many_locals; answers = e; stands = h; first = none-next many_rounds n f }
          after-number n (inr (f, inr (g, inl (h, e)))) =
              record { kind = deep_level; answers = e; stands = h; first = none-next many_locals (none-next many_rounds n f) g }
          after-number n (inr (f, inr (g, inr (i, inl (h, e))))) = record {
            kind = unknown_name;
            answers = e;
            stands = h;
            first = none-next deep_level (none-next many_locals (none-next many_rounds n f) g) i;
          }
          after-number n (inr (f, inr (g, inr (i, inr (j, inl (h, e)))))) = record {
            kind = later_task;
            answers = e;
            stands = h;
            first = none-next unknown_name (none-next deep_level (none-next many_locals (none-next many_rounds n f) g) i) j;
          }
          after-number n (inr (f, inr (g, inr (i, inr (j, inr (k, x)))))) = absurd x

  -- where none gives an answer, no kind stands
  none-stands : (at : ℕ) → ((s : ParseStop) → ¬ FirstGives (refusals_at r front text) at s) → (n : ℕ) → NoneBelow r front text n
  none-stands at none zero kind lt h = omega arith
  none-stands at none (suc n) kind lt h =
      none (stop_for kind at) (first-gives kind at h (λ other lower. none-stands at none n other (omega (arith, lower, lt))))

-- ---- at places of a text

-- no kind stands at a place before the one that these lexemes lead to
abbrev pub NoneEarlier : Roll → List ℕ → List Placed → Type 0
NoneEarlier r text front = (before more : List Placed) (rest : List ℕ) (kind : Kind) → front ≡ before ++ more → more ≢ [] →
    Lexes (length text) text before rest → ¬ Stands r (lexemes_of before) rest kind

-- then no refusal stands before it
pub none_told : (r : Roll) (text : List ℕ) (front : List Placed) → NoneEarlier r text front → NoneBefore r text front
none_told r text front none before more rest s e some x h =
    let f = first-found r (lexemes_of before) rest (length text - length rest) s h in none before more rest f.kind e some x f.stands

-- and the other way round
pub none_found : (r : Roll) (text : List ℕ) (front : List Placed) → NoneBefore r text front → NoneEarlier r text front
none_found r text front none before more rest kind e some x =
    none-stands r (lexemes_of before) rest (length text - length rest) (λ s. none before more rest s e some x) (suc (order_of kind)) kind (omega arith)

-- the refusal that is answered: it stands at this place, none stands at an earlier one, and none that comes before it in their order stands here
pub record IsRefusedFor (r : Roll) (text : List ℕ) (kind : Kind) (at : ℕ) : Type 0 where
  pub front : List Placed
  pub rest : List ℕ
  pub lexes : Lexes (length text) text front rest
  pub place : at ≡ length text - length rest
  pub stands : Stands r (lexemes_of front) rest kind
  pub first_kind : NoneBelow r (lexemes_of front) rest (order_of kind)
  pub first_place : NoneBefore r text front

-- it is the answer to the text
pub refused_told : (r : Roll) (text : List ℕ) (kind : Kind) (at : ℕ) → length text ≤ text_limit → IsRefusedFor r text kind at → IsRefused r text (stop_for kind at)
refused_told r text kind at short h = record {
  short = short;
  front = h.front;
  rest = h.rest;
  lexes = h.lexes;
  gives =
      subst (λ n. FirstGives (refusals_at r (lexemes_of h.front) h.rest) (length text - length h.rest) (stop_for kind n)) (sym h.place)
      (first-gives r (lexemes_of h.front) h.rest kind (length text - length h.rest) h.stands h.first_kind);
  first = h.first_place;
}

-- a refusal, and its kind and place
pub record Refusing (r : Roll) (text : List ℕ) (s : ParseStop) : Type 0 where
  pub kind : Kind
  pub at : ℕ
  pub answers : s ≡ stop_for kind at
  pub short : length text ≤ text_limit
  pub refused : IsRefusedFor r text kind at

-- each refusal of a text has its kind and its place
pub refused_found : (r : Roll) (text : List ℕ) (s : ParseStop) → IsRefused r text s → Refusing r text s
refused_found r text s h =
    let f = first-found r (lexemes_of h.front) h.rest (length text - length h.rest) s h.gives in
    record {
      kind = f.kind;
      at = length text - length h.rest;
      answers = f.answers;
      short = h.short;
      refused = record {
        front = h.front;
        rest = h.rest;
        lexes = h.lexes;
        place = refl;
        stands = f.stands;
        first_kind = f.first;
        first_place = h.first;
      };
    }

-- a text that isn't too long, and is refused for a kind, is stopped with the answer to it
pub kind-stops : (r : Roll) (text : List ℕ) (kind : Kind) (at : ℕ) → length text ≤ text_limit → IsRefusedFor r text kind at → IsStopped r text (stop_for kind at)
kind-stops r text kind at short h = stops kind (refused_told r text kind at short h)
  where
    stops : (k : Kind) → IsRefused r text (stop_for k at) → IsStopped r text (stop_for k at)
    stops no_lexeme_here x = x
    stops no_syntax x = x
    stops long_name x = x
    stops large_number x = x
    stops many_rounds x = x
    stops many_locals x = x
    stops deep_level x = x
    stops unknown_name x = x
    stops later_task x = x
