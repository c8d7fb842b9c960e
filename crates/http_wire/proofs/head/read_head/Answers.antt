use Rattle.std.proofs.Common.{◌≡◌, ◌∙◌, ◌∷◌, [], List, ℕ, map, subst, length, rules, Bor}
use Rattle.std.specs.Prelude.{MatchOption}
use Rattle.std.proofs.lemmas.List.{length-replicate}
use Rattle.httparse.specs.declared.spans.HeaderSpan.{HeaderSpan}
use Rattle.httparse.specs.Spans.{header_bytes}
use Rattle.http_wire.specs.Fields.{IsBodySize, transfer_encoding, values_of}
use Rattle.http_wire.specs.Request.{fields_of}
use Rattle.http_wire.proofs.HeadLemmas.{reads_whole}
use Rattle.http_wire.proofs.FieldLemmas.{fields_few, is_there}
use Rattle.http_wire.proofs.head.read_head.Goals as goal

pub returns : goal.returns
returns c =
    let at = rw c.in-Ok-Complete.field-0-is at c.in-Ok-Complete.ensures.complete in
    let within = rw c.in-Ok-Complete.field-0-is at c.in-Ok-Complete.ensures.within in
    let text = c.args.text.now in
    let spans = c.parse_request.new.headers in
    let head = at.0 in
    let size : length spans ≡ 64 = search (rules, length-replicate) in
    record {
      head = head;
      good = record {
        reads = reads_whole text head _ c.requires at.1.reads;
        few = fields_few text spans c.in-Ok-Complete.found.headers 64 head.fields within.section.count_fits size at.1.fields;
        sized = subst (λ (x : List (List ℕ × List ℕ)). IsBodySize x c.in-Some.size) at.1.fields c.in-Some.ensures.0;
      };
      method = c.of.ensures ∙ at.1.method;
      target = c.of-2.ensures ∙ at.1.path;
      small = c.in-Some.ensures.1;
      coded = is_there c.first_named.result (values_of transfer_encoding (fields_of head)) (λ (f : Bor (List ℕ) × Bor (List HeaderSpan)). f.0.now)
          (λ (f : Bor (List ℕ) × Bor (List HeaderSpan)). values_of transfer_encoding (map (header_bytes text) f.1.now)) c.is_some.result
          (subst (λ (x : List (List ℕ × List ℕ)). MatchOption c.first_named.result (values_of transfer_encoding x ≡ []) (λ f. values_of transfer_encoding x ≡ f.0.now ∷ values_of transfer_encoding (map (header_bytes text) f.1.now))) at.1.fields
          c.first_named.ensures.values)
          c.is_some.ensures;
    }
