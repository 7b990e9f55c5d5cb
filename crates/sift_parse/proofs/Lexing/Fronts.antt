-- The longest lexeme at the front: a sign, where no word and no number begins.
use Rattle.std.proofs.Common.{◌≡◌, ℕ, ◌+◌, ◌-◌, inl, inr, List, [], ◌∷◌, ◌++◌, length, take, drop, codes, sym, ap, ◌∙◌, arith, length-append, length-drop}
use Rattle.std.specs.Char.{IsAsciiLowercase, IsAsciiDigit}
use Rattle.std.proofs.lemmas.List.{take-append-drop, take_all, length-take-le}
use Rattle.sift_base.specs.Name.{IsNameByte}
use Rattle.sift_parse.specs.Lexeme.{Lexeme, word, numeral, operator, mark, Spells, MayStandBefore}
use Rattle.sift_parse.specs.Written.{SpellsSign, IsSignAt, NoSignAt, IsLexemeAt, NoLexemeAt, IsRun, BeginsLetter, BeginsDigit}
use Rattle.sift_parse.proofs.Lexing.Words.{begun, word-at}

-- ---- signs

-- the first byte is no letter of a name and no digit
abbrev pub NoWord : List ℕ → Type 0
NoWord [] = Unit {0}
NoWord (b ∷ ts) = ¬ IsAsciiLowercase b × ¬ IsAsciiDigit b

only-signs : (text : List ℕ) → NoWord text → (l : Lexeme) (front back : List ℕ) → text ≡ front ++ back → Spells l front → SpellsSign l front
only-signs [] w (word u) [] back e h = h.0
only-signs [] w (word u) (x ∷ front) back e h = cc
only-signs [] w (numeral n) front back e (inl h) =
    (let s = h.some in let f : 0 ≡ length front + length back = ap length e ∙ length-append front back in omega arith)
only-signs [] w (numeral n) front back e (inr h) =
    (let f : 0 ≡ length front + length back = ap length e
    ∙ length-append front back in let g : length front ≡ 2 + length h.0 = ap length h.1
    ∙ length-append (codes "0x") h.0 in omega arith)
only-signs [] w (operator op) front back e h = h
only-signs [] w (mark s) front back e h = h
only-signs (b ∷ ts) w (word u) front back e h = w.0 (begun (word u) b ts front back h e)
only-signs (b ∷ ts) w (numeral n) front back e h = w.1 (begun (numeral n) b ts front back h e)
only-signs (b ∷ ts) w (operator op) front back e h = h
only-signs (b ∷ ts) w (mark s) front back e h = h

sign-parted : (l : Lexeme) (bytes next : List ℕ) → SpellsSign l bytes → MayStandBefore l next
sign-parted (word w) bytes next h = absurd h
sign-parted (numeral n) bytes next h = absurd h
sign-parted (operator op) bytes next h = tt
sign-parted (mark s) bytes next h = tt

sign-spells : (l : Lexeme) (bytes : List ℕ) → SpellsSign l bytes → Spells l bytes
sign-spells (word w) bytes h = absurd h
sign-spells (numeral n) bytes h = absurd h
sign-spells (operator op) bytes h = h
sign-spells (mark s) bytes h = h

-- the longest sign is the lexeme at the front
pub sign-lexeme : (text : List ℕ) (l : Lexeme) (n : ℕ) → NoWord text → IsSignAt text l n → IsLexemeAt text l n
sign-lexeme text l n w x =
    let long : length (take n text) ≡ n = length-take-le n text x.within in
    record {
      some = x.some;
      within = x.within;
      lexeme = record {
        spelled = take n text;
        split = sym (take-append-drop n text);
        spells = sign-spells l (take n text) x.spells;
        longest = λ other front back e h. (let y = x.longest other front back e (only-signs text w other front back e h) in omega arith);
        parted = sign-parted l (take n text) (drop n text) x.spells;
      };
    }

-- where there is no sign there is no lexeme
pub sign-none : (text : List ℕ) → NoWord text → NoSignAt text → NoLexemeAt text
sign-none text w x l rest y = x y.spelled rest y.split l (only-signs text w l y.spelled rest y.split y.spells)

-- bytes that begin with neither a letter of a name nor a digit
no_word : (text : List ℕ) → ¬ BeginsLetter text → ¬ BeginsDigit text → NoWord text
no_word [] l d = tt
no_word (b ∷ ts) l d = (l, d)

-- what the signs answer is what the lexemes answer, where neither a word nor a number begins
pub signs-found : (text : List ℕ) (l : Lexeme) (n : ℕ) → ¬ BeginsLetter text → ¬ BeginsDigit text → IsSignAt text l n → IsLexemeAt text l n
signs-found text l n a b = sign-lexeme text l n (no_word text a b)

-- no lexeme begins a text that begins with no lower-case letter, no digit, no operator and no other sign
pub signs-none : (text : List ℕ) → ¬ BeginsLetter text → ¬ BeginsDigit text → NoSignAt text → NoLexemeAt text
signs-none text a b = sign-none text (no_word text a b)

-- a run of a name's bytes is a word
pub words-found : (text : List ℕ) (n : ℕ) → BeginsLetter text → IsRun IsNameByte text n → IsLexemeAt text (word (take n text)) n
words-found [] n l run = absurd l
words-found (b ∷ ts) n l run = word-at b ts n l run

-- what a slice from a place on holds
pub take-rest : (i : ℕ) (s : List ℕ) → take (length s - i) (drop i s) ≡ drop i s
take-rest i s = take_all (length s - i) (drop i s) (omega (arith, length-drop i s))
