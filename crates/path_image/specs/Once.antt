-- What an item of the file of names says, it says once.
use Rattle.std.proofs.Common.{◌≡◌, ℕ, Bool, List, [], ◌∷◌, Option, Some, None, option_and_then, codes, refl, sym, ap, ◌∙◌, subst}
use Rattle.serde_json.specs.Data as json
use Rattle.serde_json.specs.Find.{get_member, as_str, as_object}
use Rattle.path_image.specs.Data.{KeptChannel, KeptTopic, HasName, SaysChannel, SaysTopic, SaysFlag, SaysList, ItemsSay, durable, in_order}

some_eq : {X : Type 0} (a b : X) → Some a ≡ Some b → a ≡ b
some_eq a b e = cc

-- a flag is said once
pub flag_once : (m : Option json.Data) (a b : Bool) → SaysFlag m a → SaysFlag m b → a ≡ b
flag_once None a b g h = g ∙ sym h
flag_once (Some json.null) a b g h = g ∙ sym h
flag_once (Some (json.boolean x)) a b g h = g ∙ sym h
flag_once (Some (json.number n)) a b g h = absurd g
flag_once (Some (json.string s)) a b g h = absurd g
flag_once (Some (json.array ds)) a b g h = absurd g
flag_once (Some (json.object ms)) a b g h = absurd g

-- a value has its members once
pub members_once : (d : json.Data) (k l : json.Members) → d ≡ json.object k → d ≡ json.object l → k ≡ l
members_once d k l e f = some_eq k l (ap as_object (sym e ∙ f))

-- a name is said once
pub name_once : (ms : json.Members) (a b : List ℕ) → HasName ms a → HasName ms b → a ≡ b
name_once ms a b g h = some_eq a b (ap (option_and_then as_str) (sym g.says ∙ h.says))

module _ {X : Type 0} (Says : json.Data → X → Type 0) where
  -- where each item says one thing, all say one list
  pub items_once : ((d : json.Data) (x y : X) → Says d x → Says d y → x ≡ y) → (ds : json.Items) (xs ys : List X) → ItemsSay Says ds xs → ItemsSay Says ds ys → xs ≡ ys
  items_once once json.no_items [] [] g h = refl
  items_once once json.no_items [] (y ∷ ys) g h = absurd h
  items_once once json.no_items (x ∷ xs) ys g h = absurd g
  items_once once (json.item d ds) [] ys g h = absurd g
  items_once once (json.item d ds) (x ∷ xs) [] g h = absurd h
  items_once once (json.item d ds) (x ∷ xs) (y ∷ ys) g h = ap (λ z. z ∷ xs) (once d x y g.0 h.0) ∙ ap (λ zs. y ∷ zs) (items_once once ds xs ys g.1 h.1)

  -- and a member says one list
  pub list_once : ((d : json.Data) (x y : X) → Says d x → Says d y → x ≡ y) → (m : Option json.Data) (xs ys : List X) → SaysList Says m xs → SaysList Says m ys → xs ≡ ys
  list_once once None xs ys g h = g ∙ sym h
  list_once once (Some json.null) xs ys g h = g ∙ sym h
  list_once once (Some (json.boolean b)) xs ys g h = absurd g
  list_once once (Some (json.number n)) xs ys g h = absurd g
  list_once once (Some (json.string s)) xs ys g h = absurd g
  list_once once (Some (json.array ds)) xs ys g h = items_once once ds xs ys g h
  list_once once (Some (json.object ms)) xs ys g h = absurd g

-- a channel is said once
pub channel_once : (d : json.Data) (x y : KeptChannel) → SaysChannel d x → SaysChannel d y → x ≡ y
channel_once d x y g h =
    let k = members_once d h.members g.members h.object g.object in
    let P : json.Members → Type 0 = λ ms. HasName ms y.name in
    let Q : json.Members → Type 0 = λ ms. SaysFlag (get_member (codes "paused") ms) y.paused in
    let KeptOf : List ℕ → Bool → KeptChannel = λ n p. record { name = n; paused = p } in
    ap (λ n. KeptOf n x.paused) (name_once g.members x.name y.name g.name (subst P k h.name))
    ∙ ap (KeptOf y.name) (flag_once (get_member (codes "paused") g.members) x.paused y.paused g.paused (subst Q k h.paused))

-- a topic is said once
pub topic_once : (d : json.Data) (x y : KeptTopic) → SaysTopic d x → SaysTopic d y → x ≡ y
topic_once d x y g h =
    let k = members_once d h.members g.members h.object g.object in
    let P : json.Members → Type 0 = λ ms. HasName ms y.name in
    let Q : json.Members → Type 0 = λ ms. SaysFlag (get_member (codes "paused") ms) y.paused in
    let R : json.Members → Type 0 = λ ms. SaysList SaysChannel (get_member (codes "channels") ms) h.listed in
    let KeptOf : List ℕ → Bool → List KeptChannel → KeptTopic = λ n p cs. record { name = n; paused = p; channels = cs } in
    let same : g.listed ≡ h.listed = list_once SaysChannel channel_once (get_member (codes "channels") g.members) g.listed h.listed g.channels (subst R k h.channels) in
    let sorted : List KeptChannel → List KeptChannel = λ cs. in_order (λ (c : KeptChannel). c.name) (durable (λ (c : KeptChannel). c.name) cs) in
    ap (λ n. KeptOf n x.paused x.channels) (name_once g.members x.name y.name g.name (subst P k h.name))
    ∙ ap (λ p. KeptOf y.name p x.channels) (flag_once (get_member (codes "paused") g.members) x.paused y.paused g.paused (subst Q k h.paused))
    ∙ ap (KeptOf y.name y.paused) (g.keeps.order ∙ ap sorted same ∙ sym h.keeps.order)
