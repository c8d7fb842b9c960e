-- A command without subcommands is refused for one kind at most.
use Rattle.std.proofs.Common.{◌≡◌, ℕ, zero, suc, Bool, true, false, List, [], ◌∷◌, Option, None, Some, length, drop, refl, is_some, sym, subst}
use Rattle.std.specs.Prelude.{if◌then◌else◌, ◌&&◌, ◌||◌, ◌==◌, not, nat_lt, encode_utf8, slice_get}
use Rattle.std.specs.Option.{option_map_or}
use Rattle.std.specs.Str.{bytes_eq, chars}
use Rattle.clap.specs.Faults.{count_fault, repeat_fault, set_fault, action_fault, use_fault, settle_fault, react_fault, option_fault, long_fault, short_fault, bundle_step_fault, flags_fault, flag_word_fault, other_fault, word_fault, stray_fault, step_fault, turn_fault, walk_fault, default_fault, defaults_fault, level_fault}
use Rattle.clap.specs.Facts.{parser_of_value, unwrap_or_range}
use Rattle.clap.specs.Kinds.{Kinds, check_kinds, or_else, range_kinds, request_kinds, value_kinds, values_kinds}
use Rattle.clap.specs.Lexer.{long_of, short_of}
use Rattle.clap.specs.Simple.{Shape, built, argument_words}
use Rattle.clap.specs.ValueTests.{accepts}
use Rattle.clap.specs.Walk.{Held, Row, Rule, Step, Text, Waiting, Walk, action_of, arg_by_id, arg_by_index, arg_by_long, arg_by_short, attached_value, has_row, idle, is_empty, is_pending, most_values, nothing_held, option, positional, reacted, settled, subcommand, subcommand_met, takes_several, takes_values, trailing, next, value, values_or_missing, walk, walk_from, walked, with_default, word_met}
use Rattle.clap.specs.declared.builder.action.ArgAction.{ArgAction}
use Rattle.clap.specs.declared.builder.action.ArgAction.TheVariants.{Set, Append, SetTrue, SetFalse, Count, Help, HelpShort, HelpLong, Version}
use Rattle.clap.specs.declared.builder.value_parser.ValueParser.{ValueParser}
use Rattle.nsqd_words.specs.Command.{HasOneAtMost, Words, nsqd_app, refusal_of}

one_or_else : (a b : Kinds) → HasOneAtMost a → HasOneAtMost b → HasOneAtMost (or_else a b)
one_or_else [] b p q = q
one_or_else (k ∷ ks) b p q = p

one_if : (b : Bool) (xs ys : Kinds) → HasOneAtMost xs → HasOneAtMost ys → HasOneAtMost (if b then xs else ys)
one_if true xs ys p q = p
one_if false xs ys p q = q

one_option : {X : Type 0} (f : X → Kinds) (o : Option X) (none : Kinds) → ((x : X) → HasOneAtMost (f x)) → HasOneAtMost none → HasOneAtMost (option_map_or f o none)
one_option f None none p q = q
one_option f (Some x) none p q = p x

one_value : (i : Bool) (parser : ValueParser) (text : Text) → HasOneAtMost (value_kinds i parser text)
one_value i parser text = one_if (accepts i parser text) _ _ tt tt

one_values : (i : Bool) (parser : ValueParser) (texts : List Text) → HasOneAtMost (values_kinds i parser texts)
one_values i parser [] = tt
one_values i parser (v ∷ vs) = one_or_else (value_kinds i parser v) _ (one_value i parser v) (one_values i parser vs)

one_range : (least most n : ℕ) → HasOneAtMost (range_kinds least most n)
one_range least most n =
    one_if (nat_lt 0 least && n == 0) _ _ tt
    (one_if (least == most) _ _ (one_if (least == n) _ _ tt tt)
    (one_if (nat_lt n least) _ _ tt (one_if (nat_lt most n) _ _ tt tt)))

one_request : (a : ArgAction) → HasOneAtMost (request_kinds a)
one_request Set = tt
one_request Append = tt
one_request SetTrue = tt
one_request SetFalse = tt
one_request Count = tt
one_request Help = tt
one_request HelpShort = tt
one_request HelpLong = tt
one_request Version = tt

one_count : (a : Rule) (values : List Text) (rows : List Row) → HasOneAtMost (count_fault a values rows)
one_count a [] rows = one_value a.ignore_case (parser_of_value a.parser) _
one_count a (v ∷ vs) rows = one_values a.ignore_case (parser_of_value a.parser) (v ∷ vs)

one_set : (again : Bool) (a : Rule) (values : List Text) (rows : List Row) → HasOneAtMost (set_fault again a values rows)
one_set again a values rows =
    one_or_else (repeat_fault again a.id rows) _ (one_if (has_row a.id rows && not again) _ _ tt tt) (one_values a.ignore_case (parser_of_value a.parser) values)

one_action : (action : ArgAction) (again : Bool) (a : Rule) (values : List Text) (rows : List Row) → HasOneAtMost (action_fault action again a values rows)
one_action Set again a values rows = one_set again a values rows
one_action SetTrue again a values rows = one_set again a values rows
one_action SetFalse again a values rows = one_set again a values rows
one_action Append again a values rows = one_values a.ignore_case (parser_of_value a.parser) values
one_action Count again a values rows = one_count a values rows
one_action Help again a values rows = tt
one_action HelpShort again a values rows = tt
one_action HelpLong again a values rows = tt
one_action Version again a values rows = tt

one_use : (again : Bool) (a : Rule) (values : List Text) (rows : List Row) → HasOneAtMost (use_fault again a values rows)
one_use again a values rows =
    one_or_else (range_kinds (unwrap_or_range a.range).start_inclusive (most_values a) (length values)) _
    (one_range (unwrap_or_range a.range).start_inclusive (most_values a) (length values))
    (one_action (action_of a) again a (values_or_missing a values) rows)

one_settle : (c : List Rule) (again : Bool) (h : Held) → HasOneAtMost (settle_fault c again h)
one_settle c again h =
    one_option _ h.pending [] (λ p. one_option _ (arg_by_id c p.0) [] (λ a. one_use again a p.1 h.rows) tt) tt

one_react : (c : List Rule) (again : Bool) (a : Rule) (values : List Text) (h : Held) → HasOneAtMost (react_fault c again a values h)
one_react c again a values h = one_or_else (settle_fault c again h) _ (one_settle c again h) (one_use again a values (settled c h).rows)

one_given : (c : List Rule) (again : Bool) (a : Rule) (v : Option Text) (h : Held) → HasOneAtMost (option_fault c again a v h)
one_given c again a (Some v) h = one_react c again a (v ∷ []) h
one_given c again a None h = one_settle c again h

one_long : (c : List Rule) (again : Bool) (a : Option Rule) (v : Option Text) (h : Held) → HasOneAtMost (long_fault c again a v h)
one_long c again None v h = tt
one_long c again (Some a) v h =
    one_if (takes_values a) _ _ (one_given c again a v h) (one_if (is_some v) _ _ tt (one_react c again a [] h))

one_short : (c : List Rule) (again : Bool) (a : Option Rule) (rest : Text) (h : Held) (more : Held → Kinds) → ((g : Held) → HasOneAtMost (more g)) → HasOneAtMost (short_fault c again a rest h more)
one_short c again None rest h more p = tt
one_short c again (Some a) rest h more p =
    one_if (takes_values a) _ _ (one_given c again a (attached_value rest) h)
    (one_or_else (react_fault c again a [] h) _ (one_react c again a [] h) (p (reacted c a [] h)))

one_bundle_step : (c : List Rule) (again : Bool) (x : Option ℕ) (flags : Text) (skip : ℕ) (h : Held) (more : Text → ℕ → Held → Kinds) → ((t : Text) (n : ℕ) (g : Held) → HasOneAtMost (more t n g)) → HasOneAtMost (bundle_step_fault c again x flags skip h more)
one_bundle_step c again None flags skip h more p = tt
one_bundle_step c again (Some x) flags zero h more p =
    let rest = drop (length (encode_utf8 x)) flags in one_short c again (arg_by_short c x) rest h (more rest 0) (p rest 0)
one_bundle_step c again (Some x) flags (suc skip) h more p = p (drop (length (encode_utf8 x)) flags) skip h

one_flags : (c : List Rule) (again : Bool) (k : ℕ) (flags : Text) (skip : ℕ) (h : Held) → HasOneAtMost (flags_fault c again k flags skip h)
unfolding flags_fault
one_flags c again zero flags skip h = tt
one_flags c again (suc k) flags skip h =
    one_bundle_step c again (slice_get (chars flags) 0) flags skip h (flags_fault c again k) (one_flags c again k)

one_flag_word : (c : List Rule) (again : Bool) (l : Option (Text × Option Text)) (word : Text) (h : Held) → HasOneAtMost (flag_word_fault c again l word h)
one_flag_word c again (Some p) word h = one_long c again (arg_by_long c p.0) p.1 h
one_flag_word c again None word h =
    one_option _ (short_of word) [] (λ flags. one_flags c again (length flags) flags h.skip (record h { skip = 0 })) tt

-- no word is a subcommand where there are none
none_met : (waiting : Waiting) (word : Text) → subcommand_met [] waiting word ≡ None
none_met idle word = refl
none_met (option id) word = refl
none_met positional word = refl

one_word : (s : Shape) (is_trailing : Bool) (waiting : Waiting) (word : Text) (h : Held) → HasOneAtMost (word_fault s [] is_trailing waiting word h)
one_word s is_trailing waiting word h =
    one_if is_trailing _ _ tt
    (subst (λ (name : Option Text). HasOneAtMost (other_fault s name word h)) (sym (none_met waiting word))
    (one_if (bytes_eq word (45 ∷ 45 ∷ [])) _ _ tt (one_flag_word s.rules s.args_override_self (long_of word) word h)))

one_step : (s : Shape) → s.is_leaf ≡ true → (position : ℕ) (h : Held) (step : Step) → HasOneAtMost (step_fault s position h step)
one_step s leaf position h value =
    one_option _ (arg_by_index s.rules position) (stray_fault s)
    (λ a. one_if (is_pending a h.pending && takes_several a) _ _ tt (one_settle s.rules s.args_override_self h))
    (rw leaf tt)
one_step s leaf position h (next waiting) = tt
one_step s leaf position h (trailing place) = tt
one_step s leaf position h (subcommand name) = tt

one_turn : (s : Shape) → s.is_leaf ≡ true → (w : Walk) (word : Text) → HasOneAtMost (turn_fault s [] w word)
one_turn s leaf w word =
    let met = word_met s.rules [] w.is_trailing w.waiting w.position word w.held in
    one_if (is_some w.stopped) _ _ tt
    (one_or_else (word_fault s [] w.is_trailing w.waiting word w.held) _ (one_word s w.is_trailing w.waiting word w.held)
    (one_step s leaf w.position met.0 met.1))

one_walk : (s : Shape) → s.is_leaf ≡ true → (w : Walk) (words : List Text) → HasOneAtMost (walk_fault s [] w words)
unfolding walk_fault
one_walk s leaf w [] = tt
one_walk s leaf w (word ∷ rest) =
    one_or_else (turn_fault s [] w word) _ (one_turn s leaf w word) (one_walk s leaf (walked s.rules [] w word) rest)

one_default : (rows : List Row) (a : Rule) → HasOneAtMost (default_fault rows a)
one_default rows a =
    one_if (has_row a.id rows || is_empty a.defaults) _ _ tt
    (one_or_else (request_kinds (action_of a)) _ (one_request (action_of a)) (one_values a.ignore_case (parser_of_value a.parser) a.defaults))

one_defaults : (rows : List Row) (rules : List Rule) → HasOneAtMost (defaults_fault rows rules)
unfolding defaults_fault
one_defaults rows [] = tt
one_defaults rows (a ∷ rest) =
    one_or_else (default_fault rows a) _ (one_default rows a) (one_defaults (with_default rows a) rest)

one_check : (help sub argument : Bool) → HasOneAtMost (check_kinds help sub argument)
one_check help sub argument = one_if help _ _ tt (one_if sub _ _ tt (one_if argument _ _ tt tt))

-- the same of a whole level
one_level : (s : Shape) → s.is_leaf ≡ true → (h : Held) (words : List Text) (has : Bool) (below : Kinds) → HasOneAtMost below → HasOneAtMost (level_fault s [] h words has below)
one_level s leaf h words has below p =
    let end = (walk s.rules [] h words).held in
    one_or_else (walk_fault s [] (walk_from h) words) _ (one_walk s leaf (walk_from h) words)
    (one_or_else below _ p
    (one_or_else (settle_fault s.rules s.args_override_self end) _ (one_settle s.rules s.args_override_self end)
    (one_or_else (defaults_fault (settled s.rules end).rows s.rules) _ (one_defaults (settled s.rules end).rows s.rules)
    (one_check _ _ _))))

-- nsqd's words are refused for one kind at most
pub one_refusal : (words : Words) → HasOneAtMost (refusal_of words)
unfolding nsqd_app
one_refusal words =
    let a = built nsqd_app in
    let stop = (walk a.top.rules [] nothing_held (argument_words nsqd_app words)).stopped in
    one_level a.top refl nothing_held (argument_words nsqd_app words) _ _ (one_option _ stop [] (λ p. tt) tt)
