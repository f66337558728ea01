-- Words that are alike up to a place: the records before it are the same.
use Rattle.std.proofs.lemmas.Grind.{common_steps}
use Rattle.std.proofs.lemmas.Option.{gets}
use Rattle.std.proofs.Common.{◌≡◌, ℕ, zero, suc, ◌+◌, ◌-◌, ◌<◌, ◌≤◌, Bool, List, length, take, drop, Ok, sym, refl, ap, ◌∙◌, arith}
use Rattle.std.specs.List.{between, slice_get}
use Rattle.std.proofs.lemmas.List.{take-take, drop-take}
use Rattle.words.specs.Records.{actor_part, channel_part, numbers_fault, record_at}
use Rattle.words.proofs.Whole.{ActorRead, ChannelRead, past_within}

slice_get-take : (xs : List ℕ) (n i : ℕ) → i < n → slice_get (take n xs) i ≡ slice_get xs i
slice_get-take xs n i l = grind (arith, common_steps, gets)

between_taken : (h e : ℕ) (xs : List ℕ) → h ≤ e → between h e xs ≡ drop h (take e xs)
between_taken h e xs l = let z : h + (e - h) ≡ e = omega arith in sym (drop-take h (e - h) xs) ∙ ap (λ i. drop h (take i xs)) z

module _ (n : ℕ) (ws vs : List ℕ) (alike : take n ws ≡ take n vs) where
  pub slice_get_alike : (i : ℕ) → i < n → slice_get ws i ≡ slice_get vs i
  slice_get_alike i l = sym (slice_get-take ws n i l) ∙ ap (λ xs. slice_get xs i) alike ∙ slice_get-take vs n i l

  take_alike : (i : ℕ) → i ≤ n → take i ws ≡ take i vs
  take_alike i l = sym (take-take i n ws l) ∙ ap (take i) alike ∙ take-take i n vs l

  between_alike : (h e : ℕ) → h ≤ e → e ≤ n → between h e ws ≡ between h e vs
  between_alike h e l m = between_taken h e ws l ∙ ap (drop h) (take_alike e m) ∙ sym (between_taken h e vs l)

  pub numbers_alike : (i m : ℕ) → i + m ≤ n → numbers_fault ws i m ≡ numbers_fault vs i m
  numbers_alike i zero l = refl
  numbers_alike i (suc m) l = grind (arith, slice_get_alike, numbers_alike (suc i) m)

  -- records that end before that place

  pub actor_alike : (b : Bool) (h : ℕ) (part : List ℕ) → ActorRead b ws h part → h + length part < n → record_at b vs h ≡ Ok (actor_part part)
  actor_alike b h part r l = grind (arith, common_steps, gets, past_within, between_alike, numbers_alike, slice_get_alike)

  pub channel_alike : (b : Bool) (h : ℕ) (part : List ℕ) → ChannelRead ws h part → h + length part < n → record_at b vs h ≡ Ok (channel_part part)
  channel_alike b h part r l = grind (arith, common_steps, gets, past_within, between_alike, numbers_alike, slice_get_alike)
