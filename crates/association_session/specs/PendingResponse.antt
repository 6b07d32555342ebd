-- What is still to be told of the request that was served last (PS3.7, 9.3).
use Rattle.std.specs.Prelude.{ℕ, ◌+◌, suc, Bool, true, false, length, Option, Some, None, ⊤}
use Rattle.association_session.specs.declared.pending_response.PendingResponse.{PendingResponse}
use Rattle.association_session.specs.declared.pending_response.PendingResponse.TheVariants as pendings
use Rattle.association_services.specs.declared.reply.Reply.{Reply}
use Rattle.association_services.specs.declared.reply.Reply.TheVariants.{Stored, Found, Gotten, Loaded}
use Rattle.association_services.specs.Response.{FitsLimit}

-- whether the port's reply is awaited, and is one of this kind
abbrev pub takes_reply : PendingResponse → Reply → Bool
takes_reply (pendings.Store awaited) (Stored reply) = true
takes_reply (pendings.Store awaited) (Found reply) = false
takes_reply (pendings.Store awaited) (Gotten reply) = false
takes_reply (pendings.Store awaited) (Loaded reply) = false
takes_reply (pendings.Find awaited kind) (Found reply) = true
takes_reply (pendings.Find awaited kind) (Stored reply) = false
takes_reply (pendings.Find awaited kind) (Gotten reply) = false
takes_reply (pendings.Find awaited kind) (Loaded reply) = false
takes_reply (pendings.Rows telling) reply = false
takes_reply (pendings.Get awaited syntax) (Gotten reply) = true
takes_reply (pendings.Get awaited syntax) (Stored reply) = false
takes_reply (pendings.Get awaited syntax) (Found reply) = false
takes_reply (pendings.Get awaited syntax) (Loaded reply) = false
takes_reply (pendings.Sending retrieval) reply = false
takes_reply (pendings.Load loading) (Loaded reply) = true
takes_reply (pendings.Load loading) (Stored reply) = false
takes_reply (pendings.Load loading) (Found reply) = false
takes_reply (pendings.Load loading) (Gotten reply) = false

-- whether rows are told, or sub-operations begun
abbrev pub is_telling : PendingResponse → Bool
is_telling (pendings.Store awaited) = false
is_telling (pendings.Find awaited kind) = false
is_telling (pendings.Rows telling) = true
is_telling (pendings.Get awaited syntax) = false
is_telling (pendings.Sending retrieval) = true
is_telling (pendings.Load loading) = false

abbrev pub tells_rows : Option PendingResponse → Bool
tells_rows None = false
tells_rows (Some pending) = is_telling pending

-- No reply of the port is awaited.
abbrev pub IsAnswered : Option PendingResponse → Type 0
IsAnswered None = ⊤
IsAnswered (Some (pendings.Store awaited)) = ⊥
IsAnswered (Some (pendings.Find awaited kind)) = ⊥
IsAnswered (Some (pendings.Rows telling)) = ⊤
IsAnswered (Some (pendings.Get awaited syntax)) = ⊥
IsAnswered (Some (pendings.Sending retrieval)) = ⊤
IsAnswered (Some (pendings.Load loading)) = ⊥

-- No reply of the port is awaited but to a load.
abbrev pub IsAnsweredOrLoads : Option PendingResponse → Type 0
IsAnsweredOrLoads None = ⊤
IsAnsweredOrLoads (Some (pendings.Store awaited)) = ⊥
IsAnsweredOrLoads (Some (pendings.Find awaited kind)) = ⊥
IsAnsweredOrLoads (Some (pendings.Rows telling)) = ⊤
IsAnsweredOrLoads (Some (pendings.Get awaited syntax)) = ⊥
IsAnsweredOrLoads (Some (pendings.Sending retrieval)) = ⊤
IsAnsweredOrLoads (Some (pendings.Load loading)) = ⊤

-- how many steps are left at most: one for each row and the last response; two for each instance, which is loaded and
-- then sent, and the last response
abbrev pub left_of : Option PendingResponse → ℕ
left_of None = 0
left_of (Some (pendings.Store awaited)) = 0
left_of (Some (pendings.Find awaited kind)) = 0
left_of (Some (pendings.Rows telling)) = suc (length telling.rows)
left_of (Some (pendings.Get awaited syntax)) = 0
left_of (Some (pendings.Sending retrieval)) = suc (length retrieval.left + length retrieval.left)
left_of (Some (pendings.Load loading)) = suc (suc (length loading.left + length loading.left))

-- What is told has room.
abbrev pub Fits : Option PendingResponse → Type 0
Fits None = ⊤
Fits (Some (pendings.Store awaited)) = ⊤
Fits (Some (pendings.Find awaited kind)) = ⊤
Fits (Some (pendings.Rows telling)) = FitsLimit telling.awaited.limit
Fits (Some (pendings.Get awaited syntax)) = ⊤
Fits (Some (pendings.Sending retrieval)) = FitsLimit retrieval.progress.awaited.limit
Fits (Some (pendings.Load loading)) = FitsLimit loading.progress.awaited.limit
