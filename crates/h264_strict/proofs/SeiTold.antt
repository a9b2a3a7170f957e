-- What the messages of a unit say of times, read from the front on.
use Rattle.std.proofs.Common.{◌≡◌, ℕ, suc, List, None, Some, ap, ◌∙◌}
use Rattle.h264_strict.specs.SeiPayload.{message_at}
use Rattle.h264_strict.specs.SeiTimes.{times_with, times_after, times_from}
use Rattle.h264_strict.specs.declared.sei.payload.Message.{Message}
use Rattle.h264_strict.specs.declared.sei.times.TimesTold.{TimesTold}
use Rattle.h264_strict.specs.declared.sei.timing.KnownSet.{KnownSet}

module _ (known : KnownSet) (n m : ℕ) (bytes : List ℕ) (at : ℕ) (t : TimesTold) (up : n ≡ suc m) where
  split : times_from known n bytes at t ≡ times_after known bytes (message_at known bytes at) t (times_from known m bytes)
  unfolding times_from
  split = ap (λ k. times_from known k bytes at t) up

  -- no whole message stands there
  pub told-none : message_at known bytes at ≡ None → times_from known n bytes at t ≡ t
  told-none e = split ∙ ap (λ o. times_after known bytes o t (times_from known m bytes)) e

  pub told-some : (message : Message) → message_at known bytes at ≡ Some message →
      times_from known n bytes at t ≡ times_from known m bytes message.end (times_with known bytes message t)
  told-some message e = split ∙ ap (λ o. times_after known bytes o t (times_from known m bytes)) e

pub told-out : (known : KnownSet) (n : ℕ) (bytes : List ℕ) (at : ℕ) (t : TimesTold) → n ≡ 0 → times_from known n bytes at t ≡ t
unfolding times_from
told-out known n bytes at t none = ap (λ k. times_from known k bytes at t) none
