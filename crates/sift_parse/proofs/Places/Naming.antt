-- What is in force is where a `let` stands.
use Rattle.std.proofs.Common.{◌≡◌, ℕ, Bool, true, false, Option, Some, None, List, [], ◌∷◌, ◌++◌, refl, sym, ap, ◌∙◌, subst}
use Rattle.sift_parse.specs.declared.token.Keyword as keywords
use Rattle.sift_parse.specs.declared.token.Keyword.TheVariants.{Let}
use Rattle.sift_parse.specs.declared.token.Token.TheVariants.{Keyword}
use Rattle.sift_parse.specs.Force.{Force, Level, block, parenthesis, negation, keyword_before, without_minuses, after_name, after_word, word_token, Role, new_local, a_sensor, a_task, old_local, role_after}
use Rattle.sift_parse.specs.Lexeme.{keyword_of, Lexeme, word}
use Rattle.sift_parse.specs.Roll.{Roll}
use Rattle.sift_parse.specs.Levels.{is_let_keyword}
use Rattle.sift_parse.proofs.Places.Seen.{is_let}
use Rattle.sift_parse.proofs.Places.States.{is_open, state_of}
use Rattle.sift_parse.proofs.Places.Tidy.{State, OkHere, Ok}
use Rattle.sift_parse.proofs.Places.Plain.{IsPlain, Phase, J, still, let_read, bound}
use Rattle.sift_parse.proofs.Places.Lets.{plain-still, plain-bound, let-step, name-step}

-- ---- what is in force

-- how many locals lived at the `{` of each block that is open, the innermost first
abbrev pub blocks_of : List Level → List ℕ
blocks_of [] = []
blocks_of (block n ∷ ls) = n ∷ blocks_of ls
blocks_of (parenthesis ∷ ls) = blocks_of ls
blocks_of (negation ∷ ls) = blocks_of ls

-- without the minuses of a prim that ends the same blocks are open, with as many locals at each `{`
pub blocks-bare : (ls : List Level) → blocks_of (without_minuses ls) ≡ blocks_of ls
blocks-bare [] = refl
blocks-bare (block n ∷ ls) = refl
blocks-bare (parenthesis ∷ ls) = refl
blocks-bare (negation ∷ ls) = blocks-bare ls

-- how far a `let` has come: its name was read and its statement isn't over, its keyword was read just now, or none is open
abbrev pub phase : Option (List ℕ) → Role → Phase
phase (Some w) role = bound w
phase None new_local = let_read
phase None a_sensor = still
phase None a_task = still
phase None old_local = still

-- the locals, the blocks and the `let` that are in force are those that the lexemes before tell
abbrev pub Holds : List Lexeme → Force → Type 0
Holds front f = J front f.locals (blocks_of f.levels) (phase f.pending (role_after (keyword_before f)))

-- a lexeme that may stand inside a `let` leaves locals, blocks and `let` as they are, whether one is bound or none open
pub plain-step : (front : List Lexeme) (l : Lexeme) (ls : List (List ℕ)) (bs : List ℕ) (p : Option (List ℕ)) → IsPlain l
    → J front ls bs (phase p old_local) → J (front ++ l ∷ []) ls bs (phase p old_local)
plain-step front l ls bs (Some w) h j = plain-bound front l ls bs w h j
plain-step front l ls bs None h j = plain-still front l ls bs h j

not-let : (o : Option keywords.Keyword) (w : List ℕ) (b : Bool) → keyword_of w ≡ o → is_let_keyword o ≡ b → is_let (word w) ≡ b
not-let o w b e h = ap is_let_keyword e ∙ h

-- a keyword where no `let` was read just now
keyword-step : (front : List Lexeme) (w : List ℕ) (ls : List (List ℕ)) (bs : List ℕ) (p : Option (List ℕ)) (k : keywords.Keyword) (s : State)
    → keyword_of w ≡ Some k → s.bound ≡ is_open p → J front ls bs (phase p old_local) → OkHere s (Keyword k)
    → J (front ++ word w ∷ []) ls bs (phase p (role_after (Some k)))
keyword-step front w ls bs (Some v) Let s e h j ok = absurd (let g : true ≡ false = sym h ∙ ok in cc)
keyword-step front w ls bs None Let s e h j ok = let-step front w ls bs (not-let (Some Let) w true e refl) j
keyword-step front w ls bs (Some v) k s e h j ok = plain-bound front (word w) ls bs v (not-let (Some k) w false e refl) j
keyword-step front w ls bs None k s e h j ok = plain-still front (word w) ls bs (not-let (Some k) w false e refl) j

-- what is in force after a word, which is this keyword or a name of this role
abbrev pub after_by : Option keywords.Keyword → Role → List ℕ → Force → Force
after_by (Some k) role w f = f
after_by None role w f = after_name role w f

-- in the role that the keyword before it gives a name, a word leaves in force what the fold finds after it
pub by-word : (o : Option keywords.Keyword) (w : List ℕ) (f : Force) → after_by o (role_after (keyword_before f)) w f ≡ after_word o w f
by-word (Some k) w f = refl
by-word None w f = refl

-- the same, where a name that follows has this role
abbrev pub After : List Lexeme → Force → Role → Type 0
After front g role = J front g.locals (blocks_of g.levels) (phase g.pending role)

-- a `let` has come as far where a sensor's name is next as where an old local's is
pub phase-free : (p : Option (List ℕ)) → phase p a_sensor ≡ phase p old_local
phase-free (Some w) = refl
phase-free None = refl

-- a `let` has come as far where a task's name is next as where an old local's is
pub phase-task : (p : Option (List ℕ)) → phase p a_task ≡ phase p old_local
phase-task (Some w) = refl
phase-task None = refl

bound-name : (front : List Lexeme) (w : List ℕ) (ls : List (List ℕ)) (bs : List ℕ) (p : Option (List ℕ)) → is_let (word w) ≡ false
    → is_open p ≡ false → J front ls bs (phase p new_local) → J (front ++ word w ∷ []) ls bs (bound w)
bound-name front w ls bs (Some v) h e j = absurd (let g : true ≡ false = e in cc)
bound-name front w ls bs None h e j = name-step front w ls bs h j

-- where locals, blocks and `let` are those that the lexemes tell, they are so after a word that may stand there
pub word-step : (r : Roll) (front : List Lexeme) (f : Force) (w : List ℕ) (o : Option keywords.Keyword) (role : Role) → keyword_of w ≡ o
    → After front f role → Ok role (state_of f) (word_token r f w o) → After (front ++ word w ∷ []) (after_by o role w f) (role_after o)
word-step r front f w (Some k) new_local e j ok = absurd ok
word-step r front f w (Some k) a_sensor e j ok =
    keyword-step front w f.locals (blocks_of f.levels) f.pending k (state_of f) e refl
    (subst (J front f.locals (blocks_of f.levels)) (phase-free f.pending) j) ok
word-step r front f w (Some k) a_task e j ok =
    keyword-step front w f.locals (blocks_of f.levels) f.pending k (state_of f) e refl
    (subst (J front f.locals (blocks_of f.levels)) (phase-task f.pending) j) ok
word-step r front f w (Some k) old_local e j ok = keyword-step front w f.locals (blocks_of f.levels) f.pending k (state_of f) e refl j ok
word-step r front f w None new_local e j ok = bound-name front w f.locals (blocks_of f.levels) f.pending (not-let None w false e refl) ok.0 j
word-step r front f w None a_task e j ok =
    plain-step front (word w) f.locals (blocks_of f.levels) f.pending (not-let None w false e refl)
    (subst (J front f.locals (blocks_of f.levels)) (phase-task f.pending) j)
word-step r front f w None a_sensor e j ok =
    subst (λ bs. J (front ++ word w ∷ []) f.locals bs (phase f.pending old_local)) (sym (blocks-bare f.levels))
    (plain-step front (word w) f.locals (blocks_of f.levels) f.pending (not-let None w false e refl)
    (subst (J front f.locals (blocks_of f.levels)) (phase-free f.pending) j))
word-step r front f w None old_local e j ok =
    subst (λ bs. J (front ++ word w ∷ []) f.locals bs (phase f.pending old_local)) (sym (blocks-bare f.levels))
    (plain-step front (word w) f.locals (blocks_of f.levels) f.pending (not-let None w false e refl) j)
