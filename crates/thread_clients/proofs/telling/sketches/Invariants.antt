use Rattle.std.proofs.Common.{◌≡◌, map, take}
use Rattle.world_places.specs.Sending.{told_of}
use Rattle.thread_clients.proofs.telling.sketches.Given as goal

abbrev pub invariant-loop-post : goal.invariant-loop-post
invariant-loop-post g l = l.sent ≡ map told_of (take l.post-index l.posts)
