-- What a knapsack keeps beside its orders.
use Rattle.std.specs.Prelude.{ℕ, ◌+◌, ◌*◌, ◌≡◌, ◌≤◌, All, List, length}
use Rattle.mill_model.specs.Charges.{Reaches}
use Rattle.mill_model.specs.Instance.{IsOrder}
use Rattle.mill_model.specs.declared.order.TheConstants.{MAX_ORDERS}
use Rattle.knap_bound.specs.Items.{AreItems}
use Rattle.knap_bound.specs.Later.{Later}
use Rattle.knap_bound.specs.declared.orders_by_colour.Item.{Item}

-- the limits of later orders and of their mill
pub record IsLater (later : Later) : Type 0 where
  pub few : length later.orders ≤ MAX_ORDERS
  pub each : All IsOrder later.orders
  pub reach : Reaches later.charges later.mill
  pub size : later.mill.largest ≤ 20000
  pub some_colour : 1 ≤ later.mill.most_colours
  pub few_colours : later.mill.most_colours ≤ 8

-- each order as an item, and room for the tables of an empty slab
pub record IsReady (later : Later) (items : List Item) (layers one : ℕ) : Type 0 where
  pub limits : IsLater later
  pub sorted : AreItems later.orders items
  pub one_long : one ≡ later.mill.largest + 1
  pub layers_long : layers ≡ (later.mill.most_colours + 1) * (later.mill.largest + 1)
