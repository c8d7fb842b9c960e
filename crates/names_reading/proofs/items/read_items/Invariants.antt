use Rattle.std.proofs.Common.{map, take}
use Rattle.serde_json.specs.View.{view, items_of}
use Rattle.names_reading.specs.Reading.{ItemsKeep}
use Rattle.names_reading.proofs.items.read_items.Given as goal

abbrev pub invariant-loop-item : goal.invariant-loop-item
invariant-loop-item g l = ItemsKeep g.X.Listed.says g.X.Named.name_of (items_of (map view (take l.item-index l.items))) l.durables.items
