-- What the parts of a reader of the file of names answer. No public clause cites this module.
use Rattle.std.specs.Prelude.{◌≡◌, ℕ, ◌≢◌, List, AllPairs, Option, Some, None, MatchOption, IsSome, codes}
use Rattle.serde_json.specs.Data as json
use Rattle.serde_json.specs.Find.{get, as_object}
use Rattle.path_image.specs.Data.{Kept, KeptTopic, ItemsSay, SaysList, SaysTopic, SaysEpoch, IsKept, durable, in_order}

module _ {D X : Type 0} (Says : D → X → Type 0) where
  -- the data says nothing
  abbrev pub SaysNothing : D → Type 0
  SaysNothing d = (x : X) → Says d x → ⊥

  -- the answer is what the data says; there is none exactly where it says nothing
  abbrev pub Answers : D → Option X → Type 0
  Answers d answer = MatchOption answer (SaysNothing d) (Says d)

module _ {X : Type 0} (name : X → List ℕ) where
  -- no two of these have one name
  abbrev pub AreApart : List X → Type 0
  AreApart xs = AllPairs (λ a b. name a ≢ name b) xs

  -- no two of these have one name, and in byte order they are those
  pub record AreSorted (these those : List X) : Type 0 where
    pub once : AreApart these
    pub order : those ≡ in_order name these

-- a member as it counts: null is as no member
abbrev pub present : Option json.Data → Option json.Data
present None = None
present (Some json.null) = None
present (Some (json.boolean b)) = Some (json.boolean b)
present (Some (json.number n)) = Some (json.number n)
present (Some (json.string s)) = Some (json.string s)
present (Some (json.array ds)) = Some (json.array ds)
present (Some (json.object ms)) = Some (json.object ms)

module _ {X : Type 0} (Says : json.Data → X → Type 0) (name : X → List ℕ) where
  -- the items of an array say what is listed, of which these are the durable ones
  pub record ItemsKeep (items : json.Items) (durables : List X) : Type 0 where
    pub listed : List X
    pub says : ItemsSay Says items listed
    pub all : durables ≡ durable name listed

  -- a member is a list that keeps these; none where it is absent or null
  pub record ListKeeps (member : Option json.Data) (kept : List X) : Type 0 where
    pub listed : List X
    pub says : SaysList Says member listed
    pub keeps : IsKept name listed kept

-- an object keeps these
pub record ObjectKeeps (d : json.Data) (kept : Kept) : Type 0 where
  pub object : IsSome (as_object d)
  pub epoch : SaysEpoch (get (codes "id_epoch") d) kept.epoch
  pub topics : ListKeeps SaysTopic (λ (t : KeptTopic). t.name) (get (codes "topics") d) kept.topics
