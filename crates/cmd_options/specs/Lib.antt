-- The definitions of the options.
pub mod Options
