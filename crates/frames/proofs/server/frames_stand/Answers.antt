use Rattle.std.proofs.Common.{refl}
use Rattle.frames.proofs.Trips as trips
use Rattle.frames.proofs.server.frames_stand.Goals as goal

pub returns : goal.returns
returns c = record {
  requests_again = trips.requests_again;
  requests_only = trips.requests_only;
  replies_again = trips.replies_again;
  replies_only = trips.replies_only;
  figures = record { commit_bytes = refl; too_long = refl };
}
