-- The tree of a scenario, from its parts.
use Rattle.std.proofs.Common.{codes, ◌≡◌, ◌*◌, ℕ, List, [], ◌∷◌, refl, ap, ◌∙◌}
use Rattle.toml.specs.Data.{Data, Members, member, no_members}
use Rattle.sift_base.specs.Draw.{after}
use Rattle.sift_gen.specs.Scenario.{array_of, number, task_place, fault_table, sensor_tables, task_tables, tree_with, words_each}

-- the tree of a document with these units, frames, sensors, tasks and one fault
abbrev pub document_of : (units frames : ℕ) → (sensors tasks : List Data) → (fault : Data) → Members
document_of units frames sensors tasks fault =
    member (codes "fault") (array_of (fault ∷ [])) (member (codes "frames") (number frames) (member (codes "sensor") (array_of sensors)
    (member (codes "task") (array_of tasks) (member (codes "units") (number units) no_members))))

-- what is made of the same two, three and four numbers is the same
pub same-two : {C : Type 0} (f : ℕ → ℕ → C) (a a' b b' : ℕ) → a ≡ a' → b ≡ b' → f a b ≡ f a' b'
same-two f a a' b b' p q = ap (λ x. f x b) p ∙ ap (f a') q

-- what is made of the same three numbers is the same
pub same-three : {C : Type 0} (f : ℕ → ℕ → ℕ → C) (a a' b b' c c' : ℕ) → a ≡ a' → b ≡ b' → c ≡ c' → f a b c ≡ f a' b' c'
same-three f a a' b b' c c' p q r = same-two (λ x y. f x y c) a a' b b' p q ∙ ap (f a' b') r

-- what is made of the same four numbers is the same
pub same-four : {C : Type 0} (f : ℕ → ℕ → ℕ → ℕ → C) (a a' b b' c c' d d' : ℕ) → a ≡ a' → b ≡ b' → c ≡ c' → d ≡ d' → f a b c d ≡ f a' b' c' d'
same-four f a a' b b' c c' d d' p q r s = same-three (λ x y z. f x y z d) a a' b b' c c' p q r ∙ ap (f a' b' c') s

-- a document of the same parts is the same tree
pub same_tree : (units frames sensors tasks x : ℕ) (units' frames' : ℕ) (sensors' tasks' : List Data) (fault : Data) → units' ≡ units → frames' ≡ frames →
    sensors' ≡ sensor_tables sensors x → tasks' ≡ task_tables tasks sensors (after x (words_each * sensors)) →
    fault ≡ fault_table units frames tasks (task_place tasks (after x (words_each * sensors))) →
    document_of units' frames' sensors' tasks' fault ≡ tree_with units frames sensors tasks x
same_tree units frames sensors tasks x units' frames' sensors' tasks' fault a b c d e = rw (a, b, c, d, e) refl
