-- What is read of a good head.
use Rattle.std.specs.Prelude.{◌≡◌, ◌≢◌, ◌<◌, ◌^◌, ◌↔◌, ℕ, List, [], IsTrue}
use Rattle.httparse.specs.Grammar.{RequestHead}
use Rattle.http_wire.specs.declared.head.Head.{Head}
use Rattle.http_wire.specs.Fields.{transfer_encoding, values_of}
use Rattle.http_wire.specs.Request.{fields_of, IsGoodHead}

-- the text is a good head, and this is what it says
pub record Says (text : List ℕ) (said : Head) : Type 0 where
  pub head : RequestHead
  pub good : IsGoodHead text head said.size
  pub method : said.method.now ≡ head.method
  pub target : said.target.now ≡ head.target
  pub small : said.size < 10 ^ 18
  pub coded : IsTrue said.coded ↔ (values_of transfer_encoding (fields_of head) ≢ [])
