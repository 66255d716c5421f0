-- Formed: what is known of a ticket past refusal 8, for state and the crates above. Numbered:
-- refusals by their numbers, for check_form and the crates above.
pub mod Formed
pub mod Numbered
