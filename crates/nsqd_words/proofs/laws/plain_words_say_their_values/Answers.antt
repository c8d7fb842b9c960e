use Rattle.nsqd_words.proofs.PlainWords.{flag_is_found, flag_value_is_refused, help_is_asked, nothing_is_found, one_is_found, second_flag_is_refused, twice_is_refused, version_is_asked, word_behind_flag_is_refused}
use Rattle.nsqd_words.proofs.laws.plain_words_say_their_values.Goals as goal

pub returns : goal.returns
returns c =
    record {
      nothing = nothing_is_found;
      one = one_is_found;
      flag = flag_is_found;
      twice = twice_is_refused;
      second_flag = second_flag_is_refused;
      flag_value = flag_value_is_refused;
      word_behind_flag = word_behind_flag_is_refused;
      help = help_is_asked;
      version = version_is_asked;
    }
