-- Laws on the definitions: InBytes (numbers in bytes), FormBounds (how large a form's numbers are), FactsRead and WordsRead (a
-- body, both ways), Grouped (words kind by kind), ImageRead (an image that was written), ImageAgain (bytes whose contents are
-- right), RoundTrip, Product (the same at the product's numbers), ImageForms (the forms that are read). ImageCases: computed. For
-- functions: NumberRead (number_at), ImageForms (form_of, body), ImagePlaces (word_at, rise_of), Deciding (has_contents), Linking
-- (is_chained, body), Climbing (rise_of, is_rising), HasBody (has_body, body). BodyTied: the contract of `body` in the source is
-- its promise.
pub mod ImageCases
pub mod InBytes
pub mod FormBounds
pub mod NumberRead
pub mod FactsRead
pub mod WordsRead
pub mod Grouped
pub mod ImageRead
pub mod ImageAgain
pub mod RoundTrip
pub mod Product
pub mod ImageForms
pub mod ImagePlaces
pub mod Deciding
pub mod Linking
pub mod Climbing
pub mod HasBody
mod BodyTied
