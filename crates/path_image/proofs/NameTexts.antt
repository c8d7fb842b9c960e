-- The text that is written for names reads back as them.
use Rattle.std.proofs.Common.{◌≡◌, ◌<◌, ◌≤◌, ◌^◌, List, [], ◌∷◌, map, Some, option_map, option_and_then, codes, refl, sym, ap, ◌∙◌, arith, append-nil}
use Rattle.std.specs.List.{AllByRecursion}
use Rattle.json.specs.Json as text
use Rattle.json.specs.Tree.{json_tokens, depth, items_depth, HasNumbers, ItemsHaveNumbers}
use Rattle.json.proofs.Printed.Tokens.{tokens-print}
use Rattle.json.proofs.Printed.Trees.{value-json_tokens, ArePrintable-json_tokens}
use Rattle.json.proofs.Printed.Decimals.{IsNumber-decimal}
use Rattle.serde_json.specs.Data as json
use Rattle.serde_json.specs.Read.{read, max_depth, of_json, of_items, of_members}
use Rattle.serde_json.specs.Written.{compact_text, outline, items_outline}
use Rattle.serde_json.proofs.Numbers.{number_of-decimal}
use Rattle.serde_json.proofs.Texts.{print-outline}
use Rattle.path_image.specs.Data.{KeptChannel, KeptTopic, Kept, SaysChannel, SaysTopic, ItemsSay, IsNames, CanKeepChannel, CanKeepTopic, CanKeep, items_of, channel_data, topic_data, names_data, names_text}

-- the text of a value whose numbers are whole ones reads back
read-compact_text : (d : json.Data) → HasNumbers (outline d) → depth (outline d) ≤ max_depth → of_json (outline d) ≡ Some d → read (compact_text d) ≡ Some d
read-compact_text d numbers shallow back =
    ap read (sym (print-outline d))
    ∙ ap (λ x. option_and_then of_json (option_and_then (λ p. text.if_last p.0 p.1) x))
    (ap (text.value max_depth) (tokens-print (json_tokens (outline d)) (ArePrintable-json_tokens (outline d) numbers) ∙ sym (append-nil (json_tokens (outline d))))
    ∙ value-json_tokens (outline d) max_depth [] shallow)
    ∙ back

channels_numbers : (cs : List KeptChannel) → ItemsHaveNumbers (items_outline (items_of (map channel_data cs)))
channels_numbers [] = tt
channels_numbers (c ∷ cs) = ((tt, (tt, tt)), channels_numbers cs)

topics_numbers : (ts : List KeptTopic) → ItemsHaveNumbers (items_outline (items_of (map topic_data ts)))
topics_numbers [] = tt
topics_numbers (t ∷ ts) = ((channels_numbers t.channels, (tt, (tt, tt))), topics_numbers ts)

channels_depth : (cs : List KeptChannel) → items_depth (items_outline (items_of (map channel_data cs))) ≤ 1
channels_depth [] = omega arith
channels_depth (c ∷ cs) = omega (arith, channels_depth cs)

topics_depth : (ts : List KeptTopic) → items_depth (items_outline (items_of (map topic_data ts))) ≤ 3
topics_depth [] = omega arith
topics_depth (t ∷ ts) = omega (arith, channels_depth t.channels, topics_depth ts)

channels_back : (cs : List KeptChannel) → of_items (items_outline (items_of (map channel_data cs))) ≡ Some (items_of (map channel_data cs))
channels_back [] = refl
channels_back (c ∷ cs) = ap (λ r. option_map (json.item (channel_data c)) r) (channels_back cs)

topic_back : (t : KeptTopic) → of_json (outline (topic_data t)) ≡ Some (topic_data t)
topic_back t =
    ap (λ r. option_map json.object (option_and_then (λ d. of_members (text.member (codes "name") (text.string t.name) (text.member (codes "paused") (text.boolean t.paused) text.no_members)) (json.put (codes "channels") d json.no_members)) (option_map json.array r)))
    (channels_back t.channels)

topics_back : (ts : List KeptTopic) → of_items (items_outline (items_of (map topic_data ts))) ≡ Some (items_of (map topic_data ts))
topics_back [] = refl
topics_back (t ∷ ts) =
    ap (λ r. option_and_then (λ d. option_map (json.item d) (of_items (items_outline (items_of (map topic_data ts))))) r) (topic_back t)
    ∙ ap (λ r. option_map (json.item (topic_data t)) r) (topics_back ts)

names_back : (kept : Kept) → kept.epoch < 2 ^ 64 → of_json (outline (names_data kept)) ≡ Some (names_data kept)
names_back kept small =
    let last = text.member (codes "version") (text.string (codes "1.0.0")) text.no_members in
    ap (λ r. option_map json.object (option_and_then (λ d. of_members (text.member (codes "topics") (text.array (items_outline (items_of (map topic_data kept.topics)))) last) (json.put (codes "id_epoch") d json.no_members)) (option_map json.number r)))
    (number_of-decimal kept.epoch small)
    ∙ ap (λ r. option_map json.object (option_and_then (λ d. of_members last (json.put (codes "topics") d (json.member (codes "id_epoch") (json.number (json.unsigned kept.epoch)) json.no_members))) (option_map json.array r)))
    (topics_back kept.topics)

names_read : (kept : Kept) → kept.epoch < 2 ^ 64 → read (names_text kept) ≡ Some (names_data kept)
names_read kept small =
    read-compact_text (names_data kept) (IsNumber-decimal kept.epoch small, (topics_numbers kept.topics, (tt, tt)))
    (omega (arith, topics_depth kept.topics)) (names_back kept small)

channels_say : (cs : List KeptChannel) → AllByRecursion CanKeepChannel cs → ItemsSay SaysChannel (items_of (map channel_data cs)) cs
channels_say [] h = tt
channels_say (c ∷ cs) h = (record { members = _; object = refl; name = record { says = refl; is_name = h.0.named }; paused = refl }, channels_say cs h.1)

topics_say : (ts : List KeptTopic) → AllByRecursion CanKeepTopic ts → ItemsSay SaysTopic (items_of (map topic_data ts)) ts
topics_say [] h = tt
topics_say (t ∷ ts) h =
    (record { members = _; listed = t.channels; object = refl; name = record { says = refl; is_name = h.0.named }; paused = refl; channels = channels_say t.channels h.0.channels; keeps = h.0.keeps }, topics_say ts h.1)

-- what can be kept is in the grammar as it is written
pub names_text-IsNames : (kept : Kept) → CanKeep kept → IsNames (names_text kept) kept
names_text-IsNames kept h = record {
  members = _;
  listed = kept.topics;
  short = h.short;
  utf8 = h.utf8;
  object = names_read kept (let e = h.epoch in omega arith);
  epoch = (refl, h.epoch);
  topics = topics_say kept.topics h.topics;
  keeps = h.keeps;
}
