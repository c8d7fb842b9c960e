use Rattle.std.proofs.Common.{◌≡◌, take, None}
use Rattle.std.specs.List.{find}
use Rattle.std.specs.Str.{bytes_eq}
use Rattle.http_calls.specs.declared.route.Route.{Route}
use Rattle.http_calls.specs.Routes.{path_of}
use Rattle.http_calls.proofs.route.first_at.Given as goal

-- no call so far has the path
abbrev pub invariant-loop-route : goal.invariant-loop-route
invariant-loop-route l = find (λ (named : Route). bytes_eq l.path (path_of named)) (take l.route-index l.routes) ≡ None
