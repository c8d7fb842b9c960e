-- What clap makes of plain words is computed.
use Rattle.std.proofs.Common.{◌≡◌, ◌≢◌, ℕ, [], ◌∷◌, Some, refl, ap, arith}
use Rattle.std.specs.Prelude.{◌==◌, false}
use Rattle.std.proofs.lemmas.Grind.{common_steps}
use Rattle.clap.proofs.OnLiterals.{clap_on_literals}
use Rattle.clap.specs.Walk.{Text}
use Rattle.clap.specs.declared.error.kind.ErrorKind.TheVariants as kind
use Rattle.nsqd_words.specs.Command.{Words, nsqd_app, refusal_of}
use Rattle.nsqd_words.specs.Plain.{FlagIsFound, FlagValueIsRefused, HelpIsAsked, NothingIsFound, OneIsFound, SecondFlagIsRefused, TwiceIsRefused, VersionIsAsked, WordBehindFlagIsRefused, flag_word}

pub nothing_is_found : NothingIsFound
unfolding nsqd_app clap_on_literals
nothing_is_found program = (refl, refl)

pub one_is_found : OneIsFound
unfolding nsqd_app clap_on_literals
one_is_found program value =
    ((refl, refl), ((refl, refl), ((refl, refl), ((refl, refl), ((refl, refl), ((refl, refl), ((refl, refl), ((refl, refl), ((refl, refl), ((refl, refl), ((refl, refl), ((refl, refl), ((refl, refl), ((refl, refl), ((refl, refl), tt)))))))))))))))

pub flag_is_found : FlagIsFound
unfolding nsqd_app clap_on_literals
flag_is_found program = (refl, refl)

pub help_is_asked : HelpIsAsked
unfolding nsqd_app clap_on_literals
help_is_asked program more = refl

pub version_is_asked : VersionIsAsked
unfolding nsqd_app clap_on_literals
version_is_asked program more = refl

pub twice_is_refused : TwiceIsRefused
unfolding nsqd_app clap_on_literals
twice_is_refused program value other more =
    (refl, (refl, (refl, (refl, (refl, (refl, (refl, (refl, (refl, (refl, (refl, (refl, (refl, (refl, (refl, tt)))))))))))))))

pub second_flag_is_refused : SecondFlagIsRefused
unfolding nsqd_app clap_on_literals
second_flag_is_refused program more = refl

pub flag_value_is_refused : FlagValueIsRefused
unfolding nsqd_app clap_on_literals
flag_value_is_refused program value more = refl

-- an equation of numbers that is tested false
another : (m n : ℕ) → m ≢ n → (m == n) ≡ false
another m n d = grind (arith, common_steps)

-- a word that begins with another byte than a hyphen
no_hyphen : (program : Text) (c : ℕ) (rest : Text) (more : Words) → (c == 45) ≡ false → refusal_of (program ∷ flag_word ∷ (c ∷ rest) ∷ more) ≡ kind.UnknownArgument ∷ []
unfolding nsqd_app clap_on_literals
no_hyphen program c rest more h = rw (h, h) refl

pub word_behind_flag_is_refused : WordBehindFlagIsRefused
unfolding nsqd_app clap_on_literals
word_behind_flag_is_refused program [] more h = refl
word_behind_flag_is_refused program (c ∷ rest) more h = no_hyphen program c rest more (another c 45 (λ e. h (ap (λ (x : ℕ). Some x) e)))
