-- Each arm adds the image of its own variant.
use Rattle.ft_dup.proofs.emission.put_step.Goals as goal

pub returns-in_ok-put_copy-in-Copy : goal.returns-in_ok-put_copy-in-Copy
returns-in_ok-put_copy-in-Copy c = rw c.in-Copy.is c.in_ok-put_copy-in-Copy.ensures

pub returns-in_ok-put_operation-in-Op : goal.returns-in_ok-put_operation-in-Op
returns-in_ok-put_operation-in-Op c = rw c.in-Op.is c.in_ok-put_operation-in-Op.ensures

pub returns-in_ok-put_store-in-Store : goal.returns-in_ok-put_store-in-Store
returns-in_ok-put_store-in-Store c = rw c.in-Store.is c.in_ok-put_store-in-Store.ensures

pub returns-in_ok-put_exit-in-Exit : goal.returns-in_ok-put_exit-in-Exit
returns-in_ok-put_exit-in-Exit c = rw c.in-Exit.is c.in_ok-put_exit-in-Exit.ensures

pub returns-in_ok-put_load_at-in-LoadAt : goal.returns-in_ok-put_load_at-in-LoadAt
returns-in_ok-put_load_at-in-LoadAt c = rw c.in-LoadAt.is c.in_ok-put_load_at-in-LoadAt.ensures

pub returns-in_ok-put_store_at-in-StoreAt : goal.returns-in_ok-put_store_at-in-StoreAt
returns-in_ok-put_store_at-in-StoreAt c = rw c.in-StoreAt.is c.in_ok-put_store_at-in-StoreAt.ensures
