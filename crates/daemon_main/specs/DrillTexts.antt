-- What the program prints for a drill.
use Rattle.std.specs.Prelude.{◌≡◌, ℕ, List, [], ◌∷◌, ◌++◌, codes, decimal}
use Rattle.daemon_main.specs.Drills.{HasDrilled}
use Rattle.daemon_main.specs.declared.drill_run.Drilled.{Drilled}

-- a number on a line, behind its name
abbrev pub count_line : (name : List ℕ) → (count : ℕ) → List ℕ
count_line name count = name ++ decimal count ++ 10 ∷ []

-- the four numbers of a drill, each on a line
abbrev pub drill_text : Drilled → List ℕ
drill_text d = count_line (codes "published ") d.published ++ count_line (codes "sent ") d.sent ++ count_line (codes "finished ") d.finished ++ count_line (codes "left ") d.left

-- the text shows the numbers of the drill of this seed with so many publishes
pub record ShowsDrill (seed count : ℕ) (text : List ℕ) : Type 0 where
  pub drilled : Drilled
  pub has_drilled : HasDrilled seed count drilled
  pub is : text ≡ drill_text drilled
