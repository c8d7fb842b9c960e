-- A request's target: its path, and the pairs of its query.
use Rattle.std.specs.Prelude.{ℕ, List, map}
use Rattle.std.specs.Str.Lossy.{utf8_lossy}
use Rattle.form_urlencoded.specs.Form.{split_once, raw_pairs, decode}
use Rattle.nsq_base.specs.declared.pairs.Pair.{Pair}

-- what stands before the first question mark, or the whole target where it has none
abbrev pub path_of : List ℕ → List ℕ
path_of target = (split_once 63 target).0

-- what stands behind the first question mark, or nothing
abbrev pub query_of : List ℕ → List ℕ
query_of target = (split_once 63 target).1

-- a name or a value of a query as text: a plus sign is a space, `%` and two hexadecimal digits are a byte, and what isn't UTF-8
-- then is replaced
abbrev pub text_of : List ℕ → List ℕ
text_of encoded = utf8_lossy (decode encoded)

-- a pair of a query, decoded
abbrev pub pair_of : List ℕ × List ℕ → Pair
pair_of encoded = record { name = text_of encoded.0; value = text_of encoded.1 }

-- the pairs of a query, in their order: the parts between the ampersands, each parted at its first equals sign; an empty part is
-- no pair
abbrev pub pairs_of : List ℕ → List Pair
pairs_of query = map pair_of (raw_pairs query)
