-- What the fold's code holds, in the words of what is in force. No public clause cites this module.
use Rattle.std.specs.Prelude.{◌<◌, ◌^◌, map, reverse, option_map}
use Rattle.std.specs.Option.{ForSome}
use Rattle.sift_parse.specs.declared.force.Force as held
use Rattle.sift_parse.specs.declared.force.Level as held_level
use Rattle.sift_parse.specs.declared.force.Level.TheVariants as variant
use Rattle.sift_parse.specs.Force.{Level, block, parenthesis, negation, Force, number_named}
use Rattle.sift_parse.specs.Lexeme.{Lexeme, word}
use Rattle.sift_parse.specs.Roll.{Roll}
use Rattle.sift_parse.specs.Written.{lexeme_of}

-- the level that the code holds
abbrev pub open_level_of : held_level.Level → Level
open_level_of (variant.Block lived) = block lived
open_level_of variant.Parenthesis = parenthesis
open_level_of variant.Minus = negation

-- what the code holds to be in force: its lists have the newest last
abbrev pub force_of : held.Force → Force
force_of f = record { before = option_map lexeme_of f.before; levels = reverse (map open_level_of f.levels.items); locals = reverse (map (λ w. w.now) f.locals.items); pending = option_map (λ w. w.now) f.pending; named = f.named.now }

-- what a word names here has a number of one byte
abbrev pub NamesFew : Roll → Force → Lexeme → Type 0
NamesFew r f (word w) = ForSome (number_named r f w) (λ n. n < 2 ^ 8)
NamesFew r f _ = Unit {0}
