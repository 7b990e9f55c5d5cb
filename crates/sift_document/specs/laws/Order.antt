-- Rules one after another, in the order of a list.
use Rattle.std.proofs.Common.{◌≡◌, inl, inr, List, [], ◌∷◌, ◌++◌, ℕ, zero, suc, Result, Ok, Err, IfOk, IfErr, refl}
use Rattle.sift_base.specs.Stop.{IfRefused}
use Rattle.sift_base.specs.declared.stop.Stop.{Stop}
use Rattle.sift_base.specs.declared.stop.Stop.TheVariants as stop
use Rattle.sift_document.specs.Rules.{AreKept, BreaksFirst, IsKept, Rule}
use Rattle.sift_document.specs.Testing.{RefusesBy, RefusesFirst, TestsEach}
use Rattle.sift_document.specs.declared.entries.BrokenRule.{BrokenRule}

-- ---- the first of some rules

-- the first of some rules is refused
here : (rule : Rule) (rest : List Rule) (e : Stop BrokenRule) → RefusesBy rule.number rule.BrokenAt e → RefusesFirst (rule ∷ rest) e
here rule rest (stop.Refused broken) refused = inl refused
here rule rest stop.NoMemory refused = tt

-- the first of some rules is kept, and one of the others is refused
pub later : (rule : Rule) (rest : List Rule) (e : Stop BrokenRule) → IsKept rule → RefusesFirst rest e → RefusesFirst (rule ∷ rest) e
later rule rest (stop.Refused broken) kept refused = inr (kept, refused)
later rule rest stop.NoMemory kept refused = tt

-- ---- some rules, and others

-- all are kept where these and those are
kept_both : (these those : List Rule) → AreKept these → AreKept those → AreKept (these ++ those)
kept_both [] those kept others = others
kept_both (rule ∷ rest) those kept others = (kept.0, kept_both rest those kept.1 others)

kept_first : (these those : List Rule) → AreKept (these ++ those) → AreKept these
kept_first [] those kept = tt
kept_first (rule ∷ rest) those kept = (kept.0, kept_first rest those kept.1)

kept_second : (these those : List Rule) → AreKept (these ++ those) → AreKept those
kept_second [] those kept = kept
kept_second (rule ∷ rest) those kept = kept_second rest those kept.1

-- one of these is the first that is broken, whatever follows
broken_first : (these those : List Rule) (n place : ℕ) → BreaksFirst these n place → BreaksFirst (these ++ those) n place
broken_first [] those n place broken = absurd broken
broken_first (rule ∷ rest) those n place (inl broken) = inl broken
broken_first (rule ∷ rest) those n place (inr broken) = inr (broken.0, broken_first rest those n place broken.1)

-- these are kept, and one of those is the first that is broken
broken_second : (these those : List Rule) (n place : ℕ) → AreKept these → BreaksFirst those n place → BreaksFirst (these ++ those) n place
broken_second [] those n place kept broken = broken
broken_second (rule ∷ rest) those n place kept broken = inr (kept.0, broken_second rest those n place kept.1 broken)

-- the same, of what is refused
refused_first : (these those : List Rule) (e : Stop BrokenRule) → RefusesFirst these e → RefusesFirst (these ++ those) e
refused_first these those (stop.Refused broken) refused = broken_first these those broken.number broken.place refused
refused_first these those stop.NoMemory refused = tt

refused_second : (these those : List Rule) (e : Stop BrokenRule) → AreKept these → RefusesFirst those e → RefusesFirst (these ++ those) e
refused_second these those (stop.Refused broken) kept refused = broken_second these those broken.number broken.place kept refused
refused_second these those stop.NoMemory kept refused = tt

-- ---- lists of rules, one after the other

-- some rules, and those of some lists, one list after the other
abbrev pub joined_to : List Rule → List (List Rule) → List Rule
joined_to first [] = first
joined_to first (rules ∷ rest) = joined_to (first ++ rules) rest

-- the rules of some lists, one list after the other
abbrev pub joined : List (List Rule) → List Rule
joined themes = joined_to [] themes

-- the rules of each list are kept
abbrev pub AreAllKept : List (List Rule) → Type 0
AreAllKept [] = Unit {0}
AreAllKept (rules ∷ rest) = AreKept rules × AreAllKept rest

-- where the rules of each list are kept, so are those of all lists, one after the other
kept_to : (first : List Rule) (themes : List (List Rule)) → AreKept first → AreAllKept themes → AreKept (joined_to first themes)
kept_to first [] these kept = these
kept_to first (rules ∷ rest) these kept = kept_to (first ++ rules) rest (kept_both first rules these kept.0) kept.1

-- so where the rules of each list are kept, they are in the one list
pub kept_joined : (themes : List (List Rule)) → AreAllKept themes → AreKept (joined themes)
kept_joined themes kept = kept_to [] themes tt kept

-- where the rules of all lists, one after the other, are kept, so are those of each list
kept_each_to : (first : List Rule) (themes : List (List Rule)) → AreKept (joined_to first themes) → AreKept first × AreAllKept themes
kept_each_to first [] kept = (kept, tt)
kept_each_to first (rules ∷ rest) kept =
    let parts = kept_each_to (first ++ rules) rest kept in
    (kept_first first rules parts.0, (kept_second first rules parts.0, parts.1))

-- and the other way round
pub kept_each : (themes : List (List Rule)) → AreKept (joined themes) → AreAllKept themes
kept_each themes kept = (kept_each_to [] themes kept).1

-- a rule of the list so many places on is refused, and the lists before it are kept
abbrev pub StopsIn : ℕ → List (List Rule) → Stop BrokenRule → Type 0
StopsIn k [] e = ⊥
StopsIn zero (rules ∷ rest) e = RefusesFirst rules e
StopsIn (suc k) (rules ∷ rest) e = AreKept rules × StopsIn k rest e

-- so it is the first that is broken
refused_to : (first : List Rule) (themes : List (List Rule)) (e : Stop BrokenRule) → RefusesFirst first e → RefusesFirst (joined_to first themes) e
refused_to first [] e refused = refused
refused_to first (rules ∷ rest) e refused = refused_to (first ++ rules) rest e (refused_first first rules e refused)

stopped_to :
    (k : ℕ) (first : List Rule) (themes : List (List Rule)) (e : Stop BrokenRule)
    → AreKept first → StopsIn k themes e → RefusesFirst (joined_to first themes) e
stopped_to k first [] e kept stops = absurd stops
stopped_to zero first (rules ∷ rest) e kept stops = refused_to (first ++ rules) rest e (refused_second first rules e kept stops)
stopped_to (suc k) first (rules ∷ rest) e kept stops = stopped_to k (first ++ rules) rest e (kept_both first rules kept stops.0) stops.1

-- the one that is refused is the first that is broken in the one list
pub stopped_in : (k : ℕ) (themes : List (List Rule)) (e : Stop BrokenRule) → StopsIn k themes e → RefusesFirst (joined themes) e
stopped_in k themes e stops = stopped_to k [] themes e tt stops

-- ---- where a test stops

-- the rule so many places on is refused, and those before it are kept
abbrev pub StopsAt : ℕ → List Rule → Stop BrokenRule → Type 0
StopsAt k [] e = ⊥
StopsAt zero (rule ∷ rest) e = RefusesBy rule.number rule.BrokenAt e
StopsAt (suc k) (rule ∷ rest) e = IsKept rule × StopsAt k rest e

-- so it is the first that is broken
pub stopped : (k : ℕ) (rules : List Rule) (e : Stop BrokenRule) → StopsAt k rules e → RefusesFirst rules e
stopped k [] e stops = absurd stops
stopped zero (rule ∷ rest) e stops = here rule rest e stops
stopped (suc k) (rule ∷ rest) e stops = later rule rest e stops.0 (stopped k rest e stops.1)

-- what a call answers tests the rules, where it does so in either case
pub ended :
    {A : Type 0} (rules : List Rule) (r : Result A (Stop BrokenRule))
    → ((x : A) → r ≡ Ok x → AreKept rules) → ((e : Stop BrokenRule) → r ≡ Err e → RefusesFirst rules e) → TestsEach rules r
ended rules (Ok x) kept refused = kept x refl
ended rules (Err e) kept refused = refused e refl

-- what holds where a call is done, of what follows
pub ok_from : {A E : Type 0} (P Q : A → Type 0) (r : Result A E) → ((x : A) → P x → Q x) → IfOk r P → IfOk r Q
ok_from P Q (Ok x) so holds = so x holds
ok_from P Q (Err e) so holds = tt

-- where something is refused, of what follows
pub refused_from : {E : Type 0} (P Q : E → Type 0) (why : Stop E) → ((e : E) → P e → Q e) → IfRefused P why → IfRefused Q why
refused_from P Q (stop.Refused e) so holds = so e holds
refused_from P Q stop.NoMemory so holds = tt

-- and where a call isn't done
pub err_from : {A E : Type 0} (P Q : E → Type 0) (r : Result A E) → ((e : E) → P e → Q e) → IfErr r P → IfErr r Q
err_from P Q (Ok x) so holds = tt
err_from P Q (Err e) so holds = so e holds
