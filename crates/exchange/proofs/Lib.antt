-- Between: for all, and the crate above. ExchangeWays: the ways through to_text and to_image. BrokenLaws: for broken_place, and
-- the crate above. PlaceLaws: the place of a broken rule, for the crate above. PrintedLaws: for put_text and put_image.
-- ExchangeTheorems: what is proved of the calls from their contracts. ExchangeTied: the contracts in the source are the promises.
pub mod Between
pub mod ExchangeWays
pub mod BrokenLaws
pub mod PlaceLaws
pub mod PrintedLaws
pub mod ExchangeTheorems
mod ExchangeTied
