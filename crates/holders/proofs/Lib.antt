-- Linking: `link_values`. Walking: `is_held_once`. Exclusives: `each_held_once` and `all_exclusive`.
mod Linking
mod Walking
mod Exclusives
