-- The command grows by one option after the other.
use Rattle.std.proofs.Common.{◌≡◌, ℕ, suc, ◌+◌, ◌<◌, List, [], ◌∷◌, ◌++◌, false, length, map, take, fold, get_or, refl, sym, ap, subst, ◌∙◌}
use Rattle.std.specs.Borrow.{Bor}
use Rattle.std.specs.List.{AllByRecursion}
use Rattle.std.proofs.lemmas.List.{take_more}
use Rattle.std.proofs.lemmas.List.Sums.{fold-append}
use Rattle.clap.specs.Words.{AddsArg, AddsInTurn}
use Rattle.clap.specs.Walk.{Rule, Text, rule_of}
use Rattle.clap.specs.Simple.{App, app_of, with_rule}
use Rattle.clap.specs.declared.builder.arg.Arg.{Arg}
use Rattle.clap.specs.declared.builder.command.Command.{Command}
use Rattle.nsqd_words.specs.Command.{AreArgs, bare_app, flag_rule, nsqd_app, option_names, option_rule, stop_flag, with_flag, with_option}

-- the name of an option, and its help
abbrev pub Row : Type 0
Row = Bor Text × Bor Text

abbrev pub row_rule : Row → Rule
row_rule row = option_rule row.0.now

abbrev row_name : Row → Text
row_name row = row.0.now

map_push : {X Y : Type 0} (f : X → Y) (xs : List X) (x : X) → map f (xs ++ x ∷ []) ≡ map f xs ++ f x ∷ []
map_push f [] x = refl
map_push f (y ∷ ys) x = ap (λ zs. f y ∷ zs) (map_push f ys x)

-- no argument was made yet
pub none_made : (list : List Arg) → list ≡ [] → AreArgs list []
none_made list is = subst (λ (xs : List Arg). AreArgs xs []) (sym is) (record { made = refl; own = tt })

all_own : (list : List Arg) (a : Arg) → AllByRecursion (λ (x : Arg). x.global ≡ false) list → a.global ≡ false → AllByRecursion (λ (x : Arg). x.global ≡ false) (list ++ a ∷ [])
all_own [] a all own = (own, tt)
all_own (x ∷ list) a all own = (all.0, all_own list a all.1 own)

-- one argument more, behind those before
pub one_made : (list more : List Arg) (a : Arg) (rules : List Rule) (rule : Rule) → AreArgs list rules → more ≡ list ++ a ∷ [] → rule_of a ≡ rule → a.global ≡ false → AreArgs more (rules ++ rule ∷ [])
one_made list more a rules rule so_far is ruled own =
    subst (λ (xs : List Arg). AreArgs xs (rules ++ rule ∷ [])) (sym is) (record {
      made = map_push rule_of list a ∙ ap (λ rs. rs ++ rule_of a ∷ []) so_far.made ∙ ap (λ r. rules ++ r ∷ []) ruled;
      own = all_own list a so_far.own own;
    })

pub row_made : (list more : List Arg) (a : Arg) (rows : List Row) (i : ℕ) (d : Row) → i < length rows → AreArgs list (map row_rule (take i rows)) → more ≡ list ++ a ∷ [] → rule_of a ≡ row_rule (get_or rows i d) → a.global ≡ false
    → AreArgs more (map row_rule (take (i + 1) rows))
row_made list more a rows i d within so_far is ruled own =
    subst (λ rules. AreArgs more rules) (sym (ap (map row_rule) (take_more rows i d within) ∙ map_push row_rule (take i rows) (get_or rows i d)))
    (one_made list more a (map row_rule (take i rows)) (row_rule (get_or rows i d)) so_far is ruled own)

-- a command grows by the rules of the arguments that it gets
grown_by : (old new : Command) (list : List Arg) → AllByRecursion (λ (a : Arg). a.global ≡ false) list → AddsInTurn AddsArg old list new → app_of new ≡ fold with_rule (app_of old) (map rule_of list)
grown_by old new [] own adds = sym (ap app_of adds)
grown_by old new (a ∷ list) own adds = grown_by adds.0 new list own.1 adds.2 ∙ ap (λ (app : App). fold with_rule app (map rule_of list)) (adds.1.shape own.0)

-- an option counts by its name alone
row_rules : (rows : List Row) → map row_rule rows ≡ map option_rule (map row_name rows)
row_rules [] = refl
row_rules (row ∷ rows) = ap (λ rs. row_rule row ∷ rs) (row_rules rows)

folded : (app : App) (names : List Text) → fold with_rule app (map option_rule names) ≡ fold with_option app names
folded app [] = refl
folded app (name ∷ names) = folded (with_option app name) names

-- the bare command grows to the whole by its options and its flag
pub whole : (old new : Command) (list : List Arg) (rows : List Row) → app_of old ≡ bare_app → map (λ (row : Row). row.0.now) rows ≡ option_names → AreArgs list (map row_rule rows ++ flag_rule stop_flag ∷ []) → AddsInTurn AddsArg old list new → app_of new ≡ nsqd_app
unfolding nsqd_app
whole old new list rows bare names are adds =
    grown_by old new list are.own adds
    ∙ ap (fold with_rule (app_of old)) are.made
    ∙ fold-append with_rule (app_of old) (map row_rule rows) (flag_rule stop_flag ∷ [])
    ∙ ap (λ (app : App). with_flag app stop_flag) (ap (λ (app : App). fold with_rule app (map row_rule rows)) bare ∙ ap (fold with_rule bare_app) (row_rules rows ∙ ap (map option_rule) names) ∙ folded bare_app option_names)

named_length : (rows : List Row) → length (map row_name rows) ≡ length rows
named_length [] = refl
named_length (row ∷ rows) = ap suc (named_length rows)

pub fifteen : (rows : List Row) → map (λ (row : Row). row.0.now) rows ≡ option_names → length rows ≡ 15
fifteen rows names = sym (named_length rows) ∙ ap length names
