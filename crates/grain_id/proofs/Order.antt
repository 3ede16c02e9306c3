-- The laws of the orders and of the tests of equality, for the crates above.
pub use Rattle.grain_id.specs.Order.{eq_by_cmp-Decides, ties_from_Decides, text_cmp_total, text_cmp_exact, same_text_decides, same_grain, grain_cmp_total, grain_cmp_exact, grain_eq_decides, grain_eq_equiv, grain_ties, same_client, client_cmp_total, client_cmp_exact, client_eq_decides, client_eq_equiv, client_ties}
