-- The calls: which path names which, and their methods.
use Rattle.std.specs.Prelude.{ℕ, List, [], ◌∷◌, ◌++◌, find, Option, codes}
use Rattle.std.specs.Str.{bytes_eq}
use Rattle.http_calls.specs.declared.route.Route.{Route}
use Rattle.http_calls.specs.declared.route.Route.TheVariants as route
use Rattle.http_calls.specs.declared.route.Verb.{Verb}
use Rattle.http_calls.specs.declared.route.Verb.TheVariants as verb

-- the last word of the path of a call on a topic or on a channel
abbrev pub word_of : Verb → List ℕ
word_of verb.Create = codes "create"
word_of verb.Delete = codes "delete"
word_of verb.Empty = codes "empty"
word_of verb.Pause = codes "pause"
word_of verb.Unpause = codes "unpause"

-- the path of a call
abbrev pub path_of : Route → List ℕ
path_of route.Ping = codes "/ping"
path_of route.Info = codes "/info"
path_of route.Stats = codes "/stats"
path_of route.Publish = codes "/pub"
path_of route.PublishMany = codes "/mpub"
path_of (route.OnTopic v) = codes "/topic/" ++ word_of v
path_of (route.OnChannel v) = codes "/channel/" ++ word_of v
path_of route.Stop = codes "/stop"

-- the method of a call
abbrev pub method_of : Route → List ℕ
method_of route.Ping = codes "GET"
method_of route.Info = codes "GET"
method_of route.Stats = codes "GET"
method_of route.Publish = codes "POST"
method_of route.PublishMany = codes "POST"
method_of (route.OnTopic v) = codes "POST"
method_of (route.OnChannel v) = codes "POST"
method_of route.Stop = codes "POST"

-- all calls
abbrev pub routes : List Route
routes =
    route.Ping ∷ route.Info ∷ route.Stats ∷ route.Publish ∷ route.PublishMany
    ∷ route.OnTopic verb.Create ∷ route.OnTopic verb.Delete ∷ route.OnTopic verb.Empty ∷ route.OnTopic verb.Pause ∷ route.OnTopic verb.Unpause
    ∷ route.OnChannel verb.Create ∷ route.OnChannel verb.Delete ∷ route.OnChannel verb.Empty ∷ route.OnChannel verb.Pause ∷ route.OnChannel verb.Unpause
    ∷ route.Stop ∷ []

-- the call that a path names, byte for byte
abbrev pub route_at : (path : List ℕ) → Option Route
route_at path = find (λ named. bytes_eq path (path_of named)) routes
