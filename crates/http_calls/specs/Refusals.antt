-- What each refusal is answered: a status, and its code in JSON.
use Rattle.std.specs.Prelude.{ℕ, List, ◌++◌, true, Option, Some, None, codes}
use Rattle.http_wire.specs.declared.got.GotRequest.{GotRequest}
use Rattle.http_wire.specs.declared.got.GotRequest.TheVariants as got
use Rattle.http_calls.specs.declared.answer.HttpAnswer.{HttpAnswer}
use Rattle.http_calls.specs.declared.refusal.Refusal.{Refusal}
use Rattle.http_calls.specs.declared.refusal.Refusal.TheVariants as refusal

-- the status of its answer
abbrev pub status_of : Refusal → ℕ
status_of refusal.BadRequest = 400
status_of refusal.LengthRequired = 411
status_of refusal.BodyTooBig = 413
status_of refusal.NotFound = 404
status_of refusal.MethodNotAllowed = 405
status_of refusal.OutOfMemory = 503
status_of refusal.Stopping = 503
status_of refusal.InvalidFormat = 400
status_of refusal.MissingTopic = 400
status_of refusal.InvalidTopic = 400
status_of refusal.InvalidArgTopic = 400
status_of refusal.MissingChannel = 400
status_of refusal.InvalidArgChannel = 400
status_of refusal.MsgEmpty = 400
status_of refusal.MsgTooBig = 413
status_of refusal.InvalidDefer = 400
status_of refusal.BadMessage = 413
status_of refusal.BadBody = 413
status_of refusal.TopicNotFound = 404
status_of refusal.ChannelNotFound = 404
status_of refusal.IdsSpent = 503
status_of refusal.DiskFault = 500

-- its code
abbrev pub code_of : Refusal → List ℕ
code_of refusal.BadRequest = codes "BAD_REQUEST"
code_of refusal.LengthRequired = codes "LENGTH_REQUIRED"
code_of refusal.BodyTooBig = codes "BODY_TOO_BIG"
code_of refusal.NotFound = codes "NOT_FOUND"
code_of refusal.MethodNotAllowed = codes "METHOD_NOT_ALLOWED"
code_of refusal.OutOfMemory = codes "OUT_OF_MEMORY"
code_of refusal.Stopping = codes "STOPPING"
code_of refusal.InvalidFormat = codes "INVALID_FORMAT"
code_of refusal.MissingTopic = codes "MISSING_ARG_TOPIC"
code_of refusal.InvalidTopic = codes "INVALID_TOPIC"
code_of refusal.InvalidArgTopic = codes "INVALID_ARG_TOPIC"
code_of refusal.MissingChannel = codes "MISSING_ARG_CHANNEL"
code_of refusal.InvalidArgChannel = codes "INVALID_ARG_CHANNEL"
code_of refusal.MsgEmpty = codes "MSG_EMPTY"
code_of refusal.MsgTooBig = codes "MSG_TOO_BIG"
code_of refusal.InvalidDefer = codes "INVALID_DEFER"
code_of refusal.BadMessage = codes "BAD_MESSAGE"
code_of refusal.BadBody = codes "BAD_BODY"
code_of refusal.TopicNotFound = codes "TOPIC_NOT_FOUND"
code_of refusal.ChannelNotFound = codes "CHANNEL_NOT_FOUND"
code_of refusal.IdsSpent = codes "IDS_SPENT"
code_of refusal.DiskFault = codes "DISK_FAULT"

-- the body of its answer
abbrev pub text_of : Refusal → List ℕ
text_of r = codes "{\"message\":\"" ++ code_of r ++ codes "\"}"

-- its answer
abbrev pub refused_answer : Refusal → HttpAnswer
refused_answer r = record { status = status_of r; json = true; body = text_of r }

-- why what a reader gives is no request: nothing is refused of a request that is whole, nor of one that isn't yet
abbrev pub refused_by : GotRequest → Option Refusal
refused_by (got.Whole request) = None
refused_by got.More = None
refused_by got.BadHead = Some refusal.BadRequest
refused_by got.NoLength = Some refusal.LengthRequired
refused_by got.TooBig = Some refusal.BodyTooBig
refused_by got.Memory = None
