-- Which indexes carry an order, by the order bits. Not needed to believe any promise.
use Rattle.std.specs.Prelude.{ℕ, ◌/◌, ◌%◌, ◌&&◌, eqb}
use Rattle.ring.specs.declared.orders.Orders.{Orders}

abbrev pub orders_of : (bits : ℕ) → Orders
orders_of bits = record {
  back = eqb (bits / 2 % 2) 1 && eqb (bits / 4 % 2) 1;
  front = eqb (bits % 2) 1 && eqb (bits / 8 % 2) 1;
}
