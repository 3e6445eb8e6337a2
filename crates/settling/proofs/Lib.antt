pub mod PutOffLaws
pub mod RefusalLaws
